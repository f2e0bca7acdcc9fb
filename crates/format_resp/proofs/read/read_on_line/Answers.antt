use Rattle.std.proofs.Common.{refl}
use Rattle.winnow_grammar.specs.InTurn.{failed, passed, stood, told_err, told_ok}
use Rattle.format_resp.proofs.LineEnds.{ended_failed, ended_none, ended_stood}
use Rattle.format_resp.proofs.LineTexts.{line_plain}
use Rattle.format_resp.proofs.MustAsk.{backtracks_if, reads_both_ways, reads_if}
use Rattle.format_resp.specs.Resp.{Any, LineContents}
use Rattle.format_resp.proofs.read.read_on_line.Goals as goal

pub returns-in_err-line : goal.returns-in_err-line
returns-in_err-line g c =
    reads_both_ways (λ more. passed _ c.from_residual.result c.from_residual.ensures.1
    (ended_none (LineContents Any c.args.mark) (line_plain c.args.mark)
    (failed (reads_if c.in_err-line.ensures more))))

pub returns-in-Some : goal.returns-in-Some
returns-in-Some g c =
    reads_both_ways (λ more. told_ok
    (ended_stood (LineContents Any c.args.mark) (line_plain c.args.mark)
    c.in_ok-line.line c.in-Some.reply c.in-Some.ensures.some
    (stood (reads_if c.in_ok-line.ensures more))))

pub returns-in-None : goal.returns-in-None
returns-in-None g c =
    reads_both_ways (λ more. told_err
    (ended_failed (LineContents Any c.args.mark) (line_plain c.args.mark)
    c.in_ok-line.line (backtracks_if more c.from_input.ensures) (c.in-None.ensures.none refl)
    (stood (reads_if c.in_ok-line.ensures more))))
