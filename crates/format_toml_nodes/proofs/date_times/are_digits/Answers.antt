use Rattle.std.proofs.Common.{refl, rules, subst}
use Rattle.std.proofs.lemmas.List.{take_all}
use Rattle.std.proofs.lemmas.List.Elements.{All-more}
use Rattle.std.specs.List.{All}
use Rattle.format_toml_tree.specs.Dates.{IsDigit}
use Rattle.format_toml_nodes.proofs.date_times.are_digits.Goals as goal

pub loop-byte-preserved : goal.loop-byte-preserved
loop-byte-preserved c =
    let digit : IsDigit _ = search rules in
    All-more IsDigit c.args.text.now c.loop-byte.byte-index 0 c.loop-byte-test.true
    c.loop-byte.invariant digit

pub returns : goal.returns
returns c = (
  λ t. subst (λ l. All IsDigit l)
      (take_all c.loop-byte.byte-index c.args.text.now c.loop-byte-test.false)
      c.loop-byte.invariant,
  λ all. refl,
)
