use Rattle.std.proofs.Common.{length}
use Rattle.machines.specs.Grammar.{Reaches}
use Rattle.machines.specs.Texts.{text_grammar}
use Rattle.machines.proofs.text.pass_text.Given as goal

abbrev pub invariant-bytes : goal.invariant-bytes
invariant-bytes l = Reaches (text_grammar l.text) l.fn.at l.bytes l.passed l.rest

abbrev pub decreases-bytes : goal.decreases-bytes
decreases-bytes l = length l.rest
