use Rattle.std.proofs.Common.{length}
use Rattle.machines.specs.Grammar.{Reaches}
use Rattle.machines.specs.Ranges.{times_grammar}
use Rattle.machines.specs.Stars.{InnerStopped}
use Rattle.machines.proofs.times.Times.pass_words.Given as goal

abbrev pub invariant-turns : goal.invariant-turns
invariant-turns g l = Reaches (times_grammar (g.A.Machine.grammar l.self.word) l.self.least
    l.self.extra) l.fn.from l.bytes l.state l.rest
    × InnerStopped (g.A.Machine.grammar l.self.word) l.state.inner l.rest

abbrev pub decreases-turns : goal.decreases-turns
decreases-turns g l = length l.rest
