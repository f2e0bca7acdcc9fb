use Rattle.std.proofs.Common.{refl}
use Rattle.winnow_grammar.specs.InTurn.{failed, led_failed, led_none, led_stood, passed, stood}
use Rattle.winnow_grammar.specs.InTurn.{told_err, told_ok}
use Rattle.format_resp.proofs.LineTexts.{size_splits}
use Rattle.format_resp.proofs.Bodies.{data_failed, data_none, data_stood, null_stood, no_null_body}
use Rattle.format_resp.proofs.Made.{shape_of_equal}
use Rattle.format_resp.proofs.MustAsk.{backtracks_if, reads_both_ways, reads_if}
use Rattle.format_resp.specs.Resp.{SizeText, Elements}
use Rattle.format_resp.specs.declared.reply.Reply as made
use Rattle.format_resp.specs.declared.reply.Reply.TheViews.{rolls-NullBulk}
use Rattle.format_resp.specs.declared.marks.DataMark.TheVariants.{Dollar}
use Rattle.format_resp.specs.declared.marks.Mark.TheVariants.{Data}
use Rattle.format_resp.proofs.FirstLines.{only_dollar}
use Rattle.format_resp.proofs.read.read_bytes.Goals as goal

pub returns-in_err-read_size : goal.returns-in_err-read_size
returns-in_err-read_size g c protocol level =
    reads_both_ways (λ more. passed _ c.from_residual.result c.from_residual.ensures.1
    (led_none SizeText _ (failed (reads_if c.in_err-read_size.ensures more))))

pub returns-in-Dollar : goal.returns-in-Dollar
returns-in-Dollar g c protocol level =
    reads_both_ways (λ more. told_ok
    (led_stood SizeText _ (stood (reads_if c.in_ok-read_size.ensures more))
    (rw (c.in-None.is, c.in-Dollar.is) (null_stood (Elements protocol level) (Data Dollar)
    made.NullBulk tt (shape_of_equal _ refl rolls-NullBulk)))))

pub returns-in_default : goal.returns-in_default
returns-in_default g c protocol level =
    reads_both_ways (λ more. told_err (led_failed SizeText _ size_splits
    (stood (reads_if c.in_ok-read_size.ensures more))
    (rw c.in-None.is (no_null_body (Elements protocol level) (Data c.args.mark)
    (only_dollar c.args.mark c.in_default.not-Dollar) (backtracks_if more c.from_input.ensures)))))

pub returns-in_err-bytes-in-Some : goal.returns-in_err-bytes-in-Some
returns-in_err-bytes-in-Some g c protocol level =
    reads_both_ways (λ more. passed _ c.from_residual-in_err-bytes-in-Some.result
    c.from_residual-in_err-bytes-in-Some.ensures.1
    (led_failed SizeText _ size_splits (stood (reads_if c.in_ok-read_size.ensures more))
    (rw c.in-Some.is (data_none (Elements protocol level) c.args.mark c.in-Some.size
    (failed (reads_if c.in_err-bytes-in-Some.ensures more))))))

pub returns-in-Some-data_reply : goal.returns-in-Some-data_reply
returns-in-Some-data_reply g c protocol level =
    reads_both_ways (λ more. told_ok
    (led_stood SizeText _ (stood (reads_if c.in_ok-read_size.ensures more))
    (rw c.in-Some.is (data_stood (Elements protocol level) c.args.mark c.in-Some.size
    c.in_ok-bytes-in-Some.bytes c.in-Some-data_reply.reply c.in-Some-data_reply.ensures.some.0
    c.in-Some-data_reply.ensures.some.1 (stood (reads_if c.in_ok-bytes-in-Some.ensures more))))))

pub returns-in-None-data_reply : goal.returns-in-None-data_reply
returns-in-None-data_reply g c protocol level =
    reads_both_ways (λ more. told_err (led_failed SizeText _ size_splits
    (stood (reads_if c.in_ok-read_size.ensures more))
    (rw c.in-Some.is (data_failed (Elements protocol level) c.args.mark c.in-Some.size
    c.in_ok-bytes-in-Some.bytes (backtracks_if more c.from_input-in-None-data_reply.ensures)
    (c.in-None-data_reply.ensures.none refl)
    (stood (reads_if c.in_ok-bytes-in-Some.ensures more))))))
