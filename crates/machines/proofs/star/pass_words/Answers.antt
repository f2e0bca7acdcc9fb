use Rattle.std.proofs.Common.{◌∙◌, inl, inr, length, sym, arith}
use Rattle.std.proofs.lemmas.Bool.{eqb-true, iff_false}
use Rattle.machines.specs.Paths.{below_back, here}
use Rattle.machines.specs.Stars.{star_ends, star_grammar, star_stops, star_turns}
use Rattle.machines.proofs.Bytes.{below}
use Rattle.machines.proofs.Extents.{fewer}
use Rattle.machines.proofs.star.pass_words.Goals as goal

pub turns-init : goal.turns-init
turns-init g c = (
  here (star_grammar (g.A.Machine.grammar c.args.machine.now)) c.args.from c.args.bytes.now,
  c.requires.stopped,
)

pub returns-then-is_empty : goal.returns-then-is_empty
returns-then-is_empty g c = (
  c.turns.invariant.0,
  star_ends (g.A.Machine.grammar c.args.machine.now)
      (g.met.A.Machine.lawful c.args.machine.now c.requires.sound) c.requires.filled
      c.requires.disjoint
      c.turns.state c.turns.rest.now c.turns.invariant.1
      (inl (eqb-true (length c.turns.rest.now) 0 (sym c.is_empty.ensures ∙ c.if-is_empty.true))),
)

pub returns-else-is_whole : goal.returns-else-is_whole
returns-else-is_whole g c = (
  c.turns.invariant.0,
  star_ends (g.A.Machine.grammar c.args.machine.now)
      (g.met.A.Machine.lawful c.args.machine.now c.requires.sound) c.requires.filled
      c.requires.disjoint
      c.turns.state c.turns.rest.now c.turns.invariant.1
      (inr (iff_false c.is_whole.ensures c.if-is_whole.false)),
)

pub returns-then-left-rest : goal.returns-then-left-rest
returns-then-left-rest g c = (
  c.turns.invariant.0,
  star_stops (g.A.Machine.grammar c.args.machine.now)
      (g.met.A.Machine.lawful c.args.machine.now c.requires.sound) c.requires.filled
      c.requires.disjoint
      c.turns.state c.start.result c.pass.result.0 c.turns.rest.now c.pass.result.1.now
      c.start.ensures c.turns.invariant.1 c.pass.ensures c.if-left-rest.true,
)

pub turns-preserved : goal.turns-preserved
turns-preserved g c = (
  star_turns (g.A.Machine.grammar c.args.machine.now)
      (g.met.A.Machine.lawful c.args.machine.now c.requires.sound) c.requires.filled
      c.requires.disjoint
      c.args.from c.turns.state c.start.result c.pass.result.0 c.args.bytes.now
      c.turns.rest.now c.pass.result.1.now c.start.ensures
      (below_back c.turns.invariant.0.front c.turns.rest.now c.args.bytes.now
      c.turns.invariant.0.splits
      (below c.args.bytes.now c.type_inv.bytes)) c.turns.invariant.0 c.turns.invariant.1
      (c.is_whole.ensures.0 c.if-is_whole.true) c.pass.ensures c.if-left-rest.false,
  c.pass.ensures.1,
)

pub turns-smaller : goal.turns-smaller
turns-smaller g c = omega (
  arith,
  c.if-left-rest.false,
  fewer (g.A.Machine.grammar c.args.machine.now) c.pass.ensures,
)
