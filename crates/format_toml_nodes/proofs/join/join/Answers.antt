use Rattle.std.proofs.Common.{◌≡◌, ◌+◌, ◌-◌, arith, subst}
use Rattle.format_toml_nodes.specs.Laying.{JoinsFrom}
use Rattle.format_toml_nodes.proofs.Joins.{joins_end, joins_more}
use Rattle.format_toml_nodes.proofs.join.join.Goals as goal

pub loop-from-preserved : goal.loop-from-preserved
loop-from-preserved c =
    let from = c.loop-from.from in
    let old = c.args.nodes.now in
    let nodes = c.loop-from.nodes in
    let more = c.loop-from-test.true in
    let e : from ≡ (from - 1) + 1 = omega (arith, more) in
    record {
      joins = joins_more (from - 1) old nodes c.join_one.new.nodes
          (subst (λ n. JoinsFrom n old nodes) e c.loop-from.invariant.joins) c.join_one.ensures;
      within = omega (arith, c.loop-from.invariant.within);
      some = λ none. omega (arith, more, none);
    }

pub returns : goal.returns
returns c =
    joins_end c.loop-from.from c.args.nodes.now c.loop-from.nodes c.loop-from.invariant.joins
    (omega (arith, c.loop-from-test.false)) c.loop-from.invariant.some
