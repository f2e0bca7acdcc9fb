use Rattle.std.proofs.lemmas.Bool.{iff_false}
use Rattle.machines.specs.Nests.{brackets_of}
use Rattle.machines.specs.Paths.{below_back}
use Rattle.machines.specs.Turns.{nest_stops, nest_turn, nest_undone, nest_word}
use Rattle.machines.proofs.Bytes.{below}
use Rattle.machines.proofs.nested.Nested.pass_items.Goals as goal

pub returns-then-not-is_inner_done : goal.returns-then-not-is_inner_done
returns-then-not-is_inner_done g c = (
  c.turns.invariant.0,
  nest_undone (brackets_of c.args.self.now.first c.args.self.now.second)
      (g.A.Machine.grammar c.args.self.now.word)
      (g.met.A.Machine.lawful c.args.self.now.word c.requires.sound) c.requires.apart
      c.args.self.now.limit c.turns.state c.turns.rest.now c.turns.invariant.1
      (iff_false c.is_inner_done.ensures c.if-not-is_inner_done.true),
)

pub turns-preserved-in-Some-turn : goal.turns-preserved-in-Some-turn
turns-preserved-in-Some-turn g c = (
  nest_turn (brackets_of c.args.self.now.first c.args.self.now.second)
      (g.A.Machine.grammar c.args.self.now.word)
      (g.met.A.Machine.lawful c.args.self.now.word c.requires.sound) c.requires.apart
      c.args.self.now.limit c.args.from c.turns.state c.args.bytes.now
      c.turns.rest.now c.in-Some.others.now c.in-Some.byte.now c.in-Some-turn.depth
      c.in-Some-turn.kinds c.turns.invariant.0 c.in-Some.ensures.cases.0
      (below_back c.turns.invariant.0.front c.turns.rest.now
      c.args.bytes.now c.turns.invariant.0.splits (below c.args.bytes.now c.type_inv.bytes))
      c.turns.invariant.1 (c.is_inner_done.ensures.0 c.if-not-is_inner_done.false)
      c.in-Some-turn.ensures,
  tt,
)

pub returns-then-left-rest : goal.returns-then-left-rest
returns-then-left-rest g c = (
  c.turns.invariant.0,
  nest_stops (brackets_of c.args.self.now.first c.args.self.now.second)
      (g.A.Machine.grammar c.args.self.now.word)
      (g.met.A.Machine.lawful c.args.self.now.word c.requires.sound) c.requires.apart
      c.args.self.now.limit c.turns.state c.start.result c.pass.result.0
      c.turns.rest.now c.in-Some.others.now c.pass.result.1.now c.in-Some.byte.now c.start.ensures
      c.in-Some.ensures.cases.0 c.turns.invariant.1 c.in-None-turn.ensures c.pass.ensures
      c.if-left-rest.true,
)

pub turns-preserved : goal.turns-preserved
turns-preserved g c = (
  nest_word (brackets_of c.args.self.now.first c.args.self.now.second)
      (g.A.Machine.grammar c.args.self.now.word)
      (g.met.A.Machine.lawful c.args.self.now.word c.requires.sound) c.requires.apart
      c.args.self.now.limit c.args.from c.turns.state c.start.result
      c.pass.result.0 c.args.bytes.now c.turns.rest.now c.pass.result.1.now c.start.ensures
      c.turns.invariant.0 (below_back c.turns.invariant.0.front c.turns.rest.now
      c.args.bytes.now c.turns.invariant.0.splits (below c.args.bytes.now c.type_inv.bytes))
      c.turns.invariant.1 (c.is_inner_done.ensures.0 c.if-not-is_inner_done.false) c.pass.ensures
      c.if-left-rest.false,
  c.pass.ensures.1,
)
