use Rattle.std.proofs.Common.{refl}
use Rattle.winnow_grammar.specs.InTurn.{failed, passed, stood, told_err, told_ok}
use Rattle.format_resp.proofs.FirstBytes.{mark_failed, mark_stood, no_mark}
use Rattle.format_resp.proofs.MustAsk.{backtracks_if, reads_both_ways, reads_if}
use Rattle.format_resp.proofs.marks.read_mark.Goals as goal

pub returns-in_err-byte : goal.returns-in_err-byte
returns-in_err-byte c =
    reads_both_ways (λ more. passed _ c.from_residual.result c.from_residual.ensures.1
    (mark_failed c.args.protocol (failed (reads_if c.in_err-byte.ensures more))))

pub returns-in-Some : goal.returns-in-Some
returns-in-Some c =
    reads_both_ways (λ more. told_ok (mark_stood c.args.protocol c.in_ok-byte.byte c.in-Some.mark
    c.in-Some.ensures.some.0 c.in-Some.ensures.some.1 (stood (reads_if c.in_ok-byte.ensures more))))

pub returns-in-None : goal.returns-in-None
returns-in-None c =
    reads_both_ways (λ more. told_err (no_mark c.args.protocol c.in_ok-byte.byte
    (backtracks_if more c.from_input.ensures) (c.in-None.ensures.none refl)
    (stood (reads_if c.in_ok-byte.ensures more))))
