use Rattle.std.proofs.Common.{refl}
use Rattle.winnow_grammar.specs.InTurn.{failed, passed, stood, told_err, told_ok}
use Rattle.format_resp.proofs.LineEnds.{ended_failed, ended_none, ended_stood}
use Rattle.format_resp.proofs.LineTexts.{size_plain}
use Rattle.format_resp.proofs.MustAsk.{backtracks_if, reads_both_ways, reads_if}
use Rattle.format_resp.specs.Numbers.{SizeLine}
use Rattle.format_resp.specs.Resp.{SizeText}
use Rattle.format_resp.proofs.leaves.read_size.Goals as goal

pub returns-in_err-line : goal.returns-in_err-line
unfolding SizeText
returns-in_err-line c =
    reads_both_ways (λ more. passed _ c.from_residual.result c.from_residual.ensures.1
    (ended_none SizeLine size_plain (failed (reads_if c.in_err-line.ensures more))))

pub returns-in-Some : goal.returns-in-Some
unfolding SizeText
returns-in-Some c =
    reads_both_ways (λ more. told_ok
    (ended_stood SizeLine size_plain c.in_ok-line.line c.in-Some.size
    (λ _. c.in-Some.ensures.some) (stood (reads_if c.in_ok-line.ensures more))))

pub returns-in-None : goal.returns-in-None
unfolding SizeText
returns-in-None c =
    reads_both_ways (λ more. told_err (ended_failed SizeLine size_plain c.in_ok-line.line
    (backtracks_if more c.from_input.ensures) (c.in-None.ensures.none refl)
    (stood (reads_if c.in_ok-line.ensures more))))
