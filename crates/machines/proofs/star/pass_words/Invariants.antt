use Rattle.std.proofs.Common.{length}
use Rattle.machines.specs.Grammar.{Reaches}
use Rattle.machines.specs.Stars.{InnerStopped, star_grammar}
use Rattle.machines.proofs.star.pass_words.Given as goal

abbrev pub invariant-turns : goal.invariant-turns
invariant-turns g l =
    Reaches (star_grammar (g.A.Machine.grammar l.machine)) l.fn.from l.bytes l.state l.rest
    × InnerStopped (g.A.Machine.grammar l.machine) l.state l.rest

abbrev pub decreases-turns : goal.decreases-turns
decreases-turns g l = length l.rest
