use Rattle.std.proofs.Common.{◌∙◌, arith, length, sym}
use Rattle.std.proofs.lemmas.Bool.{eqb-true, iff_false}
use Rattle.machines.specs.Paths.{below_back, here}
use Rattle.machines.specs.Ranges.{times_end, times_grammar, times_over, times_stops, times_undone}
use Rattle.machines.specs.Ranges.{times_word}
use Rattle.machines.proofs.Bytes.{below}
use Rattle.machines.proofs.Extents.{fewer}
use Rattle.machines.proofs.times.Times.pass_words.Goals as goal

pub turns-init : goal.turns-init
turns-init g c = (
  here (times_grammar (g.A.Machine.grammar c.args.self.now.word) c.args.self.now.least
      c.args.self.now.extra) c.args.from c.args.bytes.now,
  c.requires.stopped,
)

pub returns-then-is_empty : goal.returns-then-is_empty
returns-then-is_empty g c = (
  c.turns.invariant.0,
  times_end (g.A.Machine.grammar c.args.self.now.word)
      (g.met.A.Machine.lawful c.args.self.now.word c.requires.sound) c.requires.filled
      c.requires.disjoint c.args.self.now.least c.args.self.now.extra c.turns.state c.turns.rest.now
      (eqb-true (length c.turns.rest.now) 0 (sym c.is_empty.ensures ∙ c.if-is_empty.true)),
)

pub returns-then-not-is_inner_done : goal.returns-then-not-is_inner_done
returns-then-not-is_inner_done g c = (
  c.turns.invariant.0,
  times_undone (g.A.Machine.grammar c.args.self.now.word)
      (g.met.A.Machine.lawful c.args.self.now.word c.requires.sound) c.requires.filled
      c.requires.disjoint c.args.self.now.least c.args.self.now.extra c.turns.state c.turns.rest.now
      c.turns.invariant.1 (iff_false c.is_inner_done.ensures c.if-not-is_inner_done.true),
)

pub returns-in-None : goal.returns-in-None
returns-in-None g c = (
  c.turns.invariant.0,
  times_over (g.A.Machine.grammar c.args.self.now.word)
      (g.met.A.Machine.lawful c.args.self.now.word c.requires.sound) c.requires.filled
      c.requires.disjoint c.args.self.now.least c.args.self.now.extra c.turns.state c.turns.rest.now
      c.turns.invariant.1 c.in-None.ensures,
)

pub returns-then-left-rest : goal.returns-then-left-rest
returns-then-left-rest g c = (
  c.turns.invariant.0,
  times_stops (g.A.Machine.grammar c.args.self.now.word)
      (g.met.A.Machine.lawful c.args.self.now.word c.requires.sound) c.requires.filled
      c.requires.disjoint c.args.self.now.least c.args.self.now.extra c.turns.state
      c.start.result c.pass.result.0
      c.turns.rest.now c.pass.result.1.now c.start.ensures c.turns.invariant.1 c.pass.ensures
      c.if-left-rest.true,
)

pub turns-preserved : goal.turns-preserved
turns-preserved g c = (
  times_word (g.A.Machine.grammar c.args.self.now.word)
      (g.met.A.Machine.lawful c.args.self.now.word c.requires.sound) c.requires.filled
      c.requires.disjoint c.args.self.now.least c.args.self.now.extra c.args.from c.turns.state
      c.start.result
      c.pass.result.0 c.args.bytes.now c.turns.rest.now c.pass.result.1.now c.in-Some.least
      c.in-Some.extra c.start.ensures c.turns.invariant.0
      (below_back c.turns.invariant.0.front c.turns.rest.now
      c.args.bytes.now c.turns.invariant.0.splits (below c.args.bytes.now c.type_inv.bytes))
      c.turns.invariant.1 (c.is_inner_done.ensures.0 c.if-not-is_inner_done.false) c.in-Some.ensures
      c.pass.ensures c.if-left-rest.false,
  c.pass.ensures.1,
)

pub turns-smaller : goal.turns-smaller
turns-smaller g c = omega (
  arith,
  c.if-left-rest.false,
  fewer (g.A.Machine.grammar c.args.self.now.word) c.pass.ensures,
)
