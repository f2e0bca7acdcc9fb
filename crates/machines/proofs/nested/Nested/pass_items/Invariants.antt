use Rattle.std.proofs.Common.{length}
use Rattle.machines.specs.Grammar.{Reaches}
use Rattle.machines.specs.Nests.{brackets_of, nested_grammar}
use Rattle.machines.specs.Stars.{InnerStopped}
use Rattle.machines.proofs.nested.Nested.pass_items.Given as goal

abbrev pub invariant-turns : goal.invariant-turns
invariant-turns g l = Reaches (nested_grammar (brackets_of l.self.first l.self.second)
    (g.A.Machine.grammar l.self.word) l.self.limit) l.fn.from l.bytes l.state l.rest
    × InnerStopped (g.A.Machine.grammar l.self.word) l.state.inner l.rest

abbrev pub decreases-turns : goal.decreases-turns
decreases-turns g l = length l.rest
