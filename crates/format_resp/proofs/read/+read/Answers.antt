use Rattle.std.proofs.Common.{arith, refl, ◌≡◌, ◌++◌, ◌∷◌, [], suc}
use Rattle.streams.specs.Input.{is_end_of_trans3}
use Rattle.winnow_grammar.specs.InTurn.{failed, led_failed, led_none, led_stood, led_told, passed}
use Rattle.winnow_grammar.specs.InTurn.{stood, told_err, told_ok, wanting}
use Rattle.winnow_grammar.specs.InTurn.Rows.{more_failed, more_stood, none_stood}
use Rattle.format_resp.proofs.LineTexts.{size_splits}
use Rattle.format_resp.proofs.Encodings.{pushed, roomy}
use Rattle.format_resp.proofs.Bodies.{aggregate_failed, aggregate_stood, too_deep, too_many}
use Rattle.format_resp.proofs.Bodies.{null_stood, no_null_body}
use Rattle.format_resp.proofs.AlikeReplies.{reply_unique}
use Rattle.format_resp.proofs.FirstBytes.{mark_splits}
use Rattle.format_resp.proofs.Made.{shape_of_equal, shape_of_gathered}
use Rattle.format_resp.proofs.MustAsk.{backtracks_if, reads_both_ways, reads_if, wants}
use Rattle.format_resp.specs.Resp.{Elements, MarkText, ReplyText, SizeText}
use Rattle.format_resp.specs.declared.reply.Reply as made
use Rattle.format_resp.specs.declared.reply.Reply.TheViews.{rolls-NullArray}
use Rattle.format_resp.specs.declared.marks.AggregateMark.TheVariants.{Star}
use Rattle.format_resp.specs.declared.marks.Mark.TheVariants.{Aggregate}
use Rattle.format_resp.proofs.FirstLines.{only_star}
use Rattle.format_resp.proofs.read.+read.Goals as goal

pub read_aggregate-returns-in_err-read_size : goal.read_aggregate-returns-in_err-read_size
read_aggregate-returns-in_err-read_size g t c =
    reads_both_ways (λ more. passed _ c.from_residual.result c.from_residual.ensures.1
    (led_none SizeText _ (failed (reads_if c.in_err-read_size.ensures more))))

pub read_aggregate-loop-init : goal.read_aggregate-loop-init
read_aggregate-loop-init g t c more =
    rw (roomy c.with_capacity.result c.with_capacity.ensures.items
    c.in_ok-replies-in-Some-checked_sub.ensures) (none_stood (ReplyText _ _))

pub read_aggregate-returns-in_err-replies-in-Some-checked_sub :
    goal.read_aggregate-returns-in_err-replies-in-Some-checked_sub
read_aggregate-returns-in_err-replies-in-Some-checked_sub g t c =
    reads_both_ways (λ more. passed _ c.from_residual-in_err-replies-in-Some-checked_sub.result
    c.from_residual-in_err-replies-in-Some-checked_sub.ensures.1
    (wanting (reads_if c.in_ok-read_size.ensures more).whole.ends
    (wants more c.in_err-replies-in-Some-checked_sub.ensures.1)))

pub read_aggregate-returns-in_err-reply-in-Some-checked_sub :
    goal.read_aggregate-returns-in_err-reply-in-Some-checked_sub
read_aggregate-returns-in_err-reply-in-Some-checked_sub g t c =
    let inner = c.in-Some-checked_sub.inner in
    let deep : c.args.level ≡ suc inner = omega (arith, c.in-Some-checked_sub.ensures) in
    reads_both_ways (λ more. passed _ c.from_residual-in_err-reply-in-Some-checked_sub.result
    c.from_residual-in_err-reply-in-Some-checked_sub.ensures.1
    (led_failed SizeText _ size_splits (stood (reads_if c.in_ok-read_size.ensures more))
    (rw c.in-Some.is (aggregate_failed c.args.protocol c.args.level c.args.mark c.in-Some.size inner
    c.in-Some-count_of.count deep c.in-Some-count_of.ensures.some
    (more_failed (ReplyText c.args.protocol inner) c.loop.counter c.in-Some-count_of.count
    (reply_unique c.args.protocol inner) (c.loop.invariant more)
    (failed (reads_if c.in_err-reply-in-Some-checked_sub.ensures more)) c.loop-test.true)))))

pub read_aggregate-returns-in_err-or_no_memory-in-Some-checked_sub :
    goal.read_aggregate-returns-in_err-or_no_memory-in-Some-checked_sub
read_aggregate-returns-in_err-or_no_memory-in-Some-checked_sub g t c =
    reads_both_ways (λ more. passed _ c.from_residual-in_err-or_no_memory-in-Some-checked_sub.result
    c.from_residual-in_err-or_no_memory-in-Some-checked_sub.ensures.1
    (wanting (is_end_of_trans3 (reads_if c.in_ok-reply-in-Some-checked_sub.ensures more).whole.ends
    (c.loop.invariant more).ends (reads_if c.in_ok-read_size.ensures more).whole.ends)
    (wants more c.in_err-or_no_memory-in-Some-checked_sub.ensures.1)))

pub read_aggregate-loop-preserved : goal.read_aggregate-loop-preserved
read_aggregate-loop-preserved g t c more =
    let items : c.push.new.self.items
    ≡ c.loop.replies.items ++ c.in_ok-reply-in-Some-checked_sub.reply ∷ [] =
    pushed _ c.push.result c.push.ensures.items
    c.in_ok-or_no_memory-in-Some-checked_sub.ensures in
    rw items (more_stood (ReplyText c.args.protocol c.in-Some-checked_sub.inner) c.loop.counter
    (c.loop.invariant more) (stood (reads_if c.in_ok-reply-in-Some-checked_sub.ensures more)))

pub read_aggregate-returns-in-Star : goal.read_aggregate-returns-in-Star
read_aggregate-returns-in-Star g t c =
    reads_both_ways (λ more. told_ok
    (led_stood SizeText _ (stood (reads_if c.in_ok-read_size.ensures more))
    (rw (c.in-None.is, c.in-Star.is) (null_stood (Elements c.args.protocol c.args.level)
    (Aggregate Star) made.NullArray tt (shape_of_equal _ refl rolls-NullArray)))))

pub read_aggregate-returns-in_default : goal.read_aggregate-returns-in_default
read_aggregate-returns-in_default g t c =
    reads_both_ways (λ more. told_err (led_failed SizeText _ size_splits
    (stood (reads_if c.in_ok-read_size.ensures more)) (rw c.in-None.is
    (no_null_body (Elements c.args.protocol c.args.level) (Aggregate c.args.mark)
    (only_star c.args.mark c.in_default.not-Star) (backtracks_if more c.from_input.ensures)))))

pub read_aggregate-returns-in-None-checked_sub : goal.read_aggregate-returns-in-None-checked_sub
read_aggregate-returns-in-None-checked_sub g t c =
    let flat : c.args.level ≡ 0 = omega (arith, c.in-None-checked_sub.ensures) in
    reads_both_ways (λ more. told_err (led_failed SizeText _ size_splits
    (stood (reads_if c.in_ok-read_size.ensures more))
    (rw c.in-Some.is (too_deep c.args.protocol c.args.level c.args.mark c.in-Some.size flat
    (backtracks_if more c.from_input-in-None-checked_sub.ensures)))))

pub read_aggregate-returns-in_default-count_of : goal.read_aggregate-returns-in_default-count_of
read_aggregate-returns-in_default-count_of g t c =
    reads_both_ways (λ more. told_err (too_many (Elements c.args.protocol c.args.level) c.args.mark
    c.in-Some.size (c.in_default-count_of.ensures.none refl)
    (backtracks_if more c.from_input-in_default-count_of.ensures)
    (rw (← c.in-Some.is) (stood (reads_if c.in_ok-read_size.ensures more)))))

pub read_aggregate-returns-after-loop : goal.read_aggregate-returns-after-loop
read_aggregate-returns-after-loop g t c =
    let inner = c.in-Some-checked_sub.inner in
    let deep : c.args.level ≡ suc inner = omega (arith, c.in-Some-checked_sub.ensures) in
    reads_both_ways (λ more. told_ok
    (led_stood SizeText _ (stood (reads_if c.in_ok-read_size.ensures more))
    (rw c.in-Some.is
    (aggregate_stood c.args.protocol c.args.level c.args.mark c.in-Some.size inner
    c.loop.counter
    deep (omega (
      arith,
      c.loop-test.false,
      c.loop.auto.counter-end,
      c.in-Some-count_of.ensures.some,
    )) c.loop.replies c.aggregate_reply.result
    (shape_of_gathered c.args.mark c.loop.replies c.aggregate_reply.ensures)
    (c.loop.invariant more)))))

pub read_reply-returns-in_err-mark : goal.read_reply-returns-in_err-mark
read_reply-returns-in_err-mark g t c =
    reads_both_ways (λ more. passed _ c.from_residual.result c.from_residual.ensures.1
    (led_none (MarkText c.args.protocol) _ (failed (reads_if c.in_err-mark.ensures more))))

pub read_reply-returns-in-Line : goal.read_reply-returns-in-Line
read_reply-returns-in-Line g t c =
    reads_both_ways (λ more. led_told (MarkText c.args.protocol) _ (mark_splits c.args.protocol)
    (stood (reads_if c.in_ok-mark.ensures more))
    (rw c.in-Line.is (reads_if c.read_on_line.ensures more)))

pub read_reply-returns-in-Data : goal.read_reply-returns-in-Data
read_reply-returns-in-Data g t c =
    reads_both_ways (λ more. led_told (MarkText c.args.protocol) _ (mark_splits c.args.protocol)
    (stood (reads_if c.in_ok-mark.ensures more)) (rw c.in-Data.is
    (reads_if (c.read_bytes.ensures c.args.protocol c.args.level) more)))

pub read_reply-returns-in-Aggregate : goal.read_reply-returns-in-Aggregate
read_reply-returns-in-Aggregate g t c =
    reads_both_ways (λ more. led_told (MarkText c.args.protocol) _ (mark_splits c.args.protocol)
    (stood (reads_if c.in_ok-mark.ensures more))
    (rw c.in-Aggregate.is (reads_if c.read_aggregate.ensures more)))
