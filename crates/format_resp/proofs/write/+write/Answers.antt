use Rattle.std.specs.Prelude.{[]}
use Rattle.std.specs.Fmt.{decimal}
use Rattle.std.specs.List.{AllByRecursion}
use Rattle.std.proofs.Common.{◌-◌, ◌∙◌, arith, inl, inr, refl, rules, subst, sym}
use Rattle.grammars.specs.Texts.{EachText}
use Rattle.std.proofs.lemmas.Result.{IfErr-weaker, on_ok_weaker}
use Rattle.format_resp.proofs.Encodings.{shown_is}
use Rattle.format_resp.proofs.Made.{shape_of_equal}
use Rattle.format_resp.proofs.OnlyTexts.{written_only}
use Rattle.format_resp.proofs.Rooms.{aggregate_full, full_err, lacks_behind, lacks_first}
use Rattle.format_resp.proofs.Rooms.{row_behind, row_first, text_err, valid_full}
use Rattle.format_resp.proofs.Writing.{adds, aggregate_put, among, as_error, deep_aggregate}
use Rattle.format_resp.proofs.Writing.{err_satisfies, or_itself, prefix_trans, refused_count}
use Rattle.format_resp.proofs.Writing.{refused_foreign, refused_within, row_end, row_more}
use Rattle.format_resp.proofs.Writing.{valid_put}
use Rattle.format_resp.proofs.WrittenTexts.{data_text, integer_text, line_text, null_text}
use Rattle.format_resp.specs.Numbers.{IsBigNumber, IsDouble}
use Rattle.format_resp.specs.Resp.{IsLineByte, WrittenText, gathered}
use Rattle.format_resp.specs.Written.{IsBroken, marked}
use Rattle.format_resp.specs.declared.marks.DataMark.TheVariants.{Dollar, Equals, Exclamation}
use Rattle.format_resp.specs.declared.marks.LineMark.TheVariants.{Comma, Hash, Minus, Parenthesis}
use Rattle.format_resp.specs.declared.marks.LineMark.TheVariants.{Plus, Underscore}
use Rattle.format_resp.specs.declared.marks.AggregateMark.TheVariants.{Star}
use Rattle.format_resp.specs.declared.marks.Mark.TheVariants.{Aggregate, Data}
use Rattle.format_resp.specs.declared.write.WriteError.TheVariants.{BigNumber, Double, Format}
use Rattle.format_resp.specs.declared.write.WriteError.TheVariants.{LineBreak}
use Rattle.format_resp.specs.declared.reply.Reply.TheViews.{rolls-BigNumber, rolls-Boolean}
use Rattle.format_resp.specs.declared.reply.Reply.TheViews.{rolls-Bulk, rolls-BulkError}
use Rattle.format_resp.specs.declared.reply.Reply.TheViews.{rolls-Double, rolls-Error, rolls-Null}
use Rattle.format_resp.specs.declared.reply.Reply.TheViews.{rolls-NullArray, rolls-NullBulk}
use Rattle.format_resp.specs.declared.reply.Reply.TheViews.{rolls-Simple, rolls-Verbatim}
use Rattle.format_resp.proofs.write.+write.Goals as goal

-- ---- elements

pub write_elements-loop-reply-preserved : goal.write_elements-loop-reply-preserved
write_elements-loop-reply-preserved g t c =
    let held = c.loop-reply.invariant in
    let written = c.in_ok-write_nested.ensures in record {
      ends = λ after more. held.ends after (row_more _ c.loop-reply.reply-index
          c.reply-item.result (omega arith) c.reply-item.is written.written more);
      kept = prefix_trans held.kept written.kept;
      room = omega (arith, held.room, written.capacity);
      lacks = λ more. held.lacks (row_behind (WrittenText c.args.protocol c.args.level)
          c.args.replies.now c.loop-reply.reply-index c.reply-item.result (omega arith)
          c.reply-item.is (written_only c.args.protocol c.args.level)
          c.loop-reply.into c.write_nested.new.into written.written written.capacity more);
    }

pub write_elements-returns-clause-written : goal.write_elements-returns-clause-written
write_elements-returns-clause-written g t c =
    c.loop-reply.invariant.ends _ (row_end _ _ c.loop-reply.reply-index _ (omega arith))

pub write_elements-returns-in_err-write_nested-clause-refused :
    goal.write_elements-returns-in_err-write_nested-clause-refused
write_elements-returns-in_err-write_nested-clause-refused g t c =
    err_satisfies _ c.from_residual.result _ c.from_residual.ensures.1
    (inr (
      c.reply-item.result,
      among _ c.loop-reply.reply-index c.reply-item.result (omega arith) c.reply-item.is,
      c.in_err-write_nested.ensures.refused,
    ))

pub write_elements-returns-in_err-write_nested-clause-kept :
    goal.write_elements-returns-in_err-write_nested-clause-kept
write_elements-returns-in_err-write_nested-clause-kept g t c =
    prefix_trans c.loop-reply.invariant.kept c.in_err-write_nested.ensures.kept

pub write_elements-returns-in_err-write_nested-clause-capacity :
    goal.write_elements-returns-in_err-write_nested-clause-capacity
write_elements-returns-in_err-write_nested-clause-capacity g t c =
    omega (arith, c.loop-reply.invariant.room, c.in_err-write_nested.ensures.capacity)

pub write_elements-returns-clause-capacity : goal.write_elements-returns-clause-capacity
write_elements-returns-clause-capacity g t c = c.loop-reply.invariant.room

pub write_elements-returns-in_err-write_nested-clause-full :
    goal.write_elements-returns-in_err-write_nested-clause-full
write_elements-returns-in_err-write_nested-clause-full g t c =
    err_satisfies _ c.from_residual.result _ c.from_residual.ensures.1
    (λ is. c.loop-reply.invariant.lacks (row_first (WrittenText c.args.protocol c.args.level)
    c.args.replies.now c.loop-reply.reply-index c.reply-item.result (omega arith)
    c.reply-item.is c.loop-reply.into (c.in_err-write_nested.ensures.full is)))

-- ---- aggregates

pub write_list-returns-in_err-write_size-in-Some-clause-full :
    goal.write_list-returns-in_err-write_size-in-Some-clause-full
write_list-returns-in_err-write_size-in-Some-clause-full g t c =
    full_err (WrittenText c.args.protocol c.args.level) (gathered c.args.mark c.args.replies.now)
    c.args.into.now c.from_residual.result (aggregate_full c.args.protocol c.args.mark
    c.in-Some.size (c.args.level - 1) c.args.replies.now c.args.into.now
    (sym (c.len.ensures ∙ c.args.replies.now.ok.0) ∙ c.in-Some.ensures.some) (omega arith)
    c.byte.ensures (λ ys are. lacks_first c.args.into.now
    (marked c.byte.result (decimal c.in-Some.size)) ys c.in_err-write_size-in-Some.ensures.full))

pub write_list-returns-in_ok-write_size-in-Some-clause-full :
    goal.write_list-returns-in_ok-write_size-in-Some-clause-full
write_list-returns-in_ok-write_size-in-Some-clause-full g t c =
    let put = c.in_ok-write_size-in-Some.ensures in
    let written = WrittenText c.args.protocol (c.args.level - 1) in
    IfErr-weaker c.write_elements.result _ _
    (λ e full is. aggregate_full c.args.protocol c.args.mark c.in-Some.size (c.args.level - 1)
    c.args.replies.now c.args.into.now
    (sym (c.len.ensures ∙ c.args.replies.now.ok.0) ∙ c.in-Some.ensures.some) (omega arith)
    c.byte.ensures (λ ys are. lacks_behind c.args.into.now c.write_size.new.into
    (marked c.byte.result (decimal c.in-Some.size)) ys put.written put.capacity
    (full is ys (subst (λ l. EachText written l ys) (sym c.as_slice.ensures.value) are))))
    c.write_elements.ensures.full

pub write_list-returns-then-level-eq0-clause-refused :
    goal.write_list-returns-then-level-eq0-clause-refused
write_list-returns-then-level-eq0-clause-refused g t c =
    deep_aggregate c.args.protocol c.args.mark c.args.replies.now (omega arith)

pub write_list-returns-in-None-clause-refused : goal.write_list-returns-in-None-clause-refused
write_list-returns-in-None-clause-refused g t c =
    refused_count c.args.protocol c.args.level c.args.mark c.args.replies.now
    (c.len.ensures ∙ c.args.replies.now.ok.0)
    (c.in-None.ensures.none refl)

pub write_list-returns-in_ok-write_size-in-Some-clause-written :
    goal.write_list-returns-in_ok-write_size-in-Some-clause-written
write_list-returns-in_ok-write_size-in-Some-clause-written g t c =
    on_ok_weaker c.write_elements.result
    (λ added within. aggregate_put c.args.protocol c.args.mark c.in-Some.size (c.args.level - 1)
    c.args.replies.now within c.as_slice.ensures.value
    (sym (c.len.ensures ∙ c.args.replies.now.ok.0) ∙ c.in-Some.ensures.some) (omega arith)
    c.byte.ensures c.in_ok-write_size-in-Some.ensures.written added)
    c.write_elements.ensures.written

pub write_list-returns-in_ok-write_size-in-Some-clause-refused :
    goal.write_list-returns-in_ok-write_size-in-Some-clause-refused
write_list-returns-in_ok-write_size-in-Some-clause-refused g t c =
    IfErr-weaker c.write_elements.result _ _
    (λ e. refused_within c.args.protocol (c.args.level - 1) c.args.mark c.args.replies.now e
    c.as_slice.ensures.value (omega arith)) c.write_elements.ensures.refused

pub write_list-returns-in_ok-write_size-in-Some-clause-kept :
    goal.write_list-returns-in_ok-write_size-in-Some-clause-kept
write_list-returns-in_ok-write_size-in-Some-clause-kept g t c =
    prefix_trans c.in_ok-write_size-in-Some.ensures.kept c.write_elements.ensures.kept

-- ---- replies

pub write_nested-returns-then-is_foreign-clause-refused :
    goal.write_nested-returns-then-is_foreign-clause-refused
write_nested-returns-then-is_foreign-clause-refused g t c =
    refused_foreign c.args.protocol c.args.level c.args.reply.now c.if-is_foreign.ensures

pub write_nested-returns-in-Simple-clause-written :
    goal.write_nested-returns-in-Simple-clause-written
write_nested-returns-in-Simple-clause-written g t c =
    valid_put c.args.protocol c.args.level _ _ _ _ c.if-is_foreign.ensures
    (λ valid. line_text c.args.protocol c.args.level _ Plus _ (
      _,
      shape_of_equal _ c.in-Simple.is (rolls-Simple _),
      shown_is (AllByRecursion IsLineByte) _ valid,
    ))
    c.write_text.result c.write_text.ensures.written

pub write_nested-returns-in-Simple-clause-refused :
    goal.write_nested-returns-in-Simple-clause-refused
write_nested-returns-in-Simple-clause-refused g t c =
    as_error c.args.protocol c.args.level _ LineBreak
    (λ not. or_itself IsBroken _ (inl (_, shape_of_equal _ c.in-Simple.is (rolls-Simple _), not)))
    c.write_text.result c.write_text.ensures.refused

pub write_nested-returns-in-Error-clause-written : goal.write_nested-returns-in-Error-clause-written
write_nested-returns-in-Error-clause-written g t c =
    valid_put c.args.protocol c.args.level _ _ _ _ c.if-is_foreign.ensures
    (λ valid. line_text c.args.protocol c.args.level _ Minus _ (
      _,
      shape_of_equal _ c.in-Error.is (rolls-Error _),
      shown_is (AllByRecursion IsLineByte) _ valid,
    ))
    c.write_text-in-Error.result c.write_text-in-Error.ensures.written

pub write_nested-returns-in-Error-clause-refused : goal.write_nested-returns-in-Error-clause-refused
write_nested-returns-in-Error-clause-refused g t c =
    as_error c.args.protocol c.args.level _ LineBreak
    (λ not. or_itself IsBroken _ (inr (_, shape_of_equal _ c.in-Error.is (rolls-Error _), not)))
    c.write_text-in-Error.result c.write_text-in-Error.ensures.refused

pub write_nested-returns-in-Double-clause-written :
    goal.write_nested-returns-in-Double-clause-written
write_nested-returns-in-Double-clause-written g t c =
    valid_put c.args.protocol c.args.level _ _ _ _ c.if-is_foreign.ensures
    (λ valid. line_text c.args.protocol c.args.level _ Comma _
    (_, shape_of_equal _ c.in-Double.is (rolls-Double _), shown_is IsDouble _ valid))
    c.write_double.result c.write_double.ensures.written

pub write_nested-returns-in-Double-clause-refused :
    goal.write_nested-returns-in-Double-clause-refused
write_nested-returns-in-Double-clause-refused g t c =
    as_error c.args.protocol c.args.level _ Double
    (λ not. or_itself _ _ (_, shape_of_equal _ c.in-Double.is (rolls-Double _), not))
    c.write_double.result c.write_double.ensures.refused

pub write_nested-returns-in-BigNumber-clause-written :
    goal.write_nested-returns-in-BigNumber-clause-written
write_nested-returns-in-BigNumber-clause-written g t c =
    valid_put c.args.protocol c.args.level _ _ _ _ c.if-is_foreign.ensures
    (λ valid. line_text c.args.protocol c.args.level _ Parenthesis _
    (_, shape_of_equal _ c.in-BigNumber.is (rolls-BigNumber _), shown_is IsBigNumber _ valid))
    c.write_big_number.result c.write_big_number.ensures.written

pub write_nested-returns-in-BigNumber-clause-refused :
    goal.write_nested-returns-in-BigNumber-clause-refused
write_nested-returns-in-BigNumber-clause-refused g t c =
    as_error c.args.protocol c.args.level _ BigNumber
    (λ not. or_itself _ _ (_, shape_of_equal _ c.in-BigNumber.is (rolls-BigNumber _), not))
    c.write_big_number.result c.write_big_number.ensures.refused

pub write_nested-returns-in-Verbatim-clause-written :
    goal.write_nested-returns-in-Verbatim-clause-written
write_nested-returns-in-Verbatim-clause-written g t c =
    valid_put c.args.protocol c.args.level _ _ _ _ c.if-is_foreign.ensures
    (λ valid. data_text c.args.protocol c.args.level _ Equals _
    (shape_of_equal _ c.in-Verbatim.is (rolls-Verbatim _)) valid (search rules))
    c.write_verbatim.result c.write_verbatim.ensures.written

pub write_nested-returns-in-Verbatim-clause-refused :
    goal.write_nested-returns-in-Verbatim-clause-refused
write_nested-returns-in-Verbatim-clause-refused g t c =
    as_error c.args.protocol c.args.level _ Format
    (λ not. or_itself _ _ (_, shape_of_equal _ c.in-Verbatim.is (rolls-Verbatim _), not))
    c.write_verbatim.result c.write_verbatim.ensures.refused

pub write_nested-returns-in_ok-write_integer-in-Integer-clause-written :
    goal.write_nested-returns-in_ok-write_integer-in-Integer-clause-written
write_nested-returns-in_ok-write_integer-in-Integer-clause-written g t c =
    adds _ (integer_text c.args.protocol c.args.level _ _ (search (rules, c.in-Integer.is))
    (search rules) c.if-is_foreign.ensures) c.in_ok-write_integer-in-Integer.ensures.written

pub write_nested-returns-in_ok-write_line-in-Null-clause-written :
    goal.write_nested-returns-in_ok-write_line-in-Null-clause-written
write_nested-returns-in_ok-write_line-in-Null-clause-written g t c =
    adds _ (line_text c.args.protocol c.args.level _ Underscore []
    (shape_of_equal _ c.in-Null.is rolls-Null, refl) c.if-is_foreign.ensures)
    c.in_ok-write_line-in-Null.ensures.written

pub write_nested-returns-in_ok-write_line-in-Boolean-clause-written :
    goal.write_nested-returns-in_ok-write_line-in-Boolean-clause-written
write_nested-returns-in_ok-write_line-in-Boolean-clause-written g t c =
    adds _ (line_text c.args.protocol c.args.level _ Hash _
    (_, shape_of_equal _ c.in-Boolean.is (rolls-Boolean _), c.boolean_text.ensures)
    c.if-is_foreign.ensures)
    c.in_ok-write_line-in-Boolean.ensures.written

pub write_nested-returns-in_ok-write_data-in-BulkError-clause-written :
    goal.write_nested-returns-in_ok-write_data-in-BulkError-clause-written
write_nested-returns-in_ok-write_data-in-BulkError-clause-written g t c =
    adds _ (data_text c.args.protocol c.args.level _ Exclamation _
    (shape_of_equal _ c.in-BulkError.is (rolls-BulkError _)) tt (search rules)
    c.if-is_foreign.ensures)
    c.in_ok-write_data-in-BulkError.ensures.written

pub write_nested-returns-in_ok-write_data-in-Bulk-clause-written :
    goal.write_nested-returns-in_ok-write_data-in-Bulk-clause-written
write_nested-returns-in_ok-write_data-in-Bulk-clause-written g t c =
    adds _ (data_text c.args.protocol c.args.level _ Dollar _
    (shape_of_equal _ c.in-Bulk.is (rolls-Bulk _)) tt (search rules) c.if-is_foreign.ensures)
    c.in_ok-write_data-in-Bulk.ensures.written

pub write_nested-returns-in_ok-write_line-in-NullBulk-clause-written :
    goal.write_nested-returns-in_ok-write_line-in-NullBulk-clause-written
write_nested-returns-in_ok-write_line-in-NullBulk-clause-written g t c =
    adds _ (null_text c.args.protocol c.args.level _ (Data Dollar) tt
    (shape_of_equal _ c.in-NullBulk.is rolls-NullBulk) c.if-is_foreign.ensures)
    c.in_ok-write_line-in-NullBulk.ensures.written

pub write_nested-returns-in_ok-write_line-in-NullArray-clause-written :
    goal.write_nested-returns-in_ok-write_line-in-NullArray-clause-written
write_nested-returns-in_ok-write_line-in-NullArray-clause-written g t c =
    adds _ (null_text c.args.protocol c.args.level _ (Aggregate Star) tt
    (shape_of_equal _ c.in-NullArray.is rolls-NullArray) c.if-is_foreign.ensures)
    c.in_ok-write_line-in-NullArray.ensures.written

-- ---- replies for which there is no room

pub write_nested-returns-in_err-write_integer-in-Integer-clause-full :
    goal.write_nested-returns-in_err-write_integer-in-Integer-clause-full
write_nested-returns-in_err-write_integer-in-Integer-clause-full g t c =
    text_err c.args.protocol c.args.level _ c.args.into.now _ _
    (integer_text c.args.protocol c.args.level _ _ (search (rules, c.in-Integer.is))
    (search rules)) c.in_err-write_integer-in-Integer.ensures.full

pub write_nested-returns-in_err-write_line-in-Null-clause-full :
    goal.write_nested-returns-in_err-write_line-in-Null-clause-full
write_nested-returns-in_err-write_line-in-Null-clause-full g t c =
    text_err c.args.protocol c.args.level _ c.args.into.now _ _
    (line_text c.args.protocol c.args.level _ Underscore []
    (shape_of_equal _ c.in-Null.is rolls-Null, refl))
    c.in_err-write_line-in-Null.ensures.full

pub write_nested-returns-in_err-write_line-in-Boolean-clause-full :
    goal.write_nested-returns-in_err-write_line-in-Boolean-clause-full
write_nested-returns-in_err-write_line-in-Boolean-clause-full g t c =
    text_err c.args.protocol c.args.level _ c.args.into.now _ _
    (line_text c.args.protocol c.args.level _ Hash _
    (_, shape_of_equal _ c.in-Boolean.is (rolls-Boolean _), c.boolean_text.ensures))
    c.in_err-write_line-in-Boolean.ensures.full

pub write_nested-returns-in_err-write_data-in-Bulk-clause-full :
    goal.write_nested-returns-in_err-write_data-in-Bulk-clause-full
write_nested-returns-in_err-write_data-in-Bulk-clause-full g t c =
    text_err c.args.protocol c.args.level _ c.args.into.now _ _
    (data_text c.args.protocol c.args.level _ Dollar _
    (shape_of_equal _ c.in-Bulk.is (rolls-Bulk _)) tt
    (search rules)) c.in_err-write_data-in-Bulk.ensures.full

pub write_nested-returns-in_err-write_data-in-BulkError-clause-full :
    goal.write_nested-returns-in_err-write_data-in-BulkError-clause-full
write_nested-returns-in_err-write_data-in-BulkError-clause-full g t c =
    text_err c.args.protocol c.args.level _ c.args.into.now _ _
    (data_text c.args.protocol c.args.level _ Exclamation _
    (shape_of_equal _ c.in-BulkError.is (rolls-BulkError _)) tt (search rules))
    c.in_err-write_data-in-BulkError.ensures.full

pub write_nested-returns-in_err-write_line-in-NullBulk-clause-full :
    goal.write_nested-returns-in_err-write_line-in-NullBulk-clause-full
write_nested-returns-in_err-write_line-in-NullBulk-clause-full g t c =
    text_err c.args.protocol c.args.level _ c.args.into.now _ _
    (null_text c.args.protocol c.args.level _ (Data Dollar) tt
    (shape_of_equal _ c.in-NullBulk.is rolls-NullBulk))
    c.in_err-write_line-in-NullBulk.ensures.full

pub write_nested-returns-in_err-write_line-in-NullArray-clause-full :
    goal.write_nested-returns-in_err-write_line-in-NullArray-clause-full
write_nested-returns-in_err-write_line-in-NullArray-clause-full g t c =
    text_err c.args.protocol c.args.level _ c.args.into.now _ _
    (null_text c.args.protocol c.args.level _ (Aggregate Star) tt
    (shape_of_equal _ c.in-NullArray.is rolls-NullArray))
    c.in_err-write_line-in-NullArray.ensures.full

pub write_nested-returns-in-Simple-clause-full : goal.write_nested-returns-in-Simple-clause-full
write_nested-returns-in-Simple-clause-full g t c =
    valid_full c.args.protocol c.args.level _ c.args.into.now _ _
    (λ valid. line_text c.args.protocol c.args.level _ Plus _ (
      _,
      shape_of_equal _ c.in-Simple.is (rolls-Simple _),
      shown_is (AllByRecursion IsLineByte) _ valid,
    ))
    c.write_text.ensures.full

pub write_nested-returns-in-Error-clause-full : goal.write_nested-returns-in-Error-clause-full
write_nested-returns-in-Error-clause-full g t c =
    valid_full c.args.protocol c.args.level _ c.args.into.now _ _
    (λ valid. line_text c.args.protocol c.args.level _ Minus _ (
      _,
      shape_of_equal _ c.in-Error.is (rolls-Error _),
      shown_is (AllByRecursion IsLineByte) _ valid,
    ))
    c.write_text-in-Error.ensures.full

pub write_nested-returns-in-Double-clause-full : goal.write_nested-returns-in-Double-clause-full
write_nested-returns-in-Double-clause-full g t c =
    valid_full c.args.protocol c.args.level _ c.args.into.now _ _
    (λ valid. line_text c.args.protocol c.args.level _ Comma _
    (_, shape_of_equal _ c.in-Double.is (rolls-Double _), shown_is IsDouble _ valid))
    c.write_double.ensures.full

pub write_nested-returns-in-BigNumber-clause-full :
    goal.write_nested-returns-in-BigNumber-clause-full
write_nested-returns-in-BigNumber-clause-full g t c =
    valid_full c.args.protocol c.args.level _ c.args.into.now _ _
    (λ valid. line_text c.args.protocol c.args.level _ Parenthesis _
    (_, shape_of_equal _ c.in-BigNumber.is (rolls-BigNumber _), shown_is IsBigNumber _ valid))
    c.write_big_number.ensures.full

pub write_nested-returns-in-Verbatim-clause-full : goal.write_nested-returns-in-Verbatim-clause-full
write_nested-returns-in-Verbatim-clause-full g t c =
    valid_full c.args.protocol c.args.level _ c.args.into.now _ _
    (λ valid. data_text c.args.protocol c.args.level _ Equals _
    (shape_of_equal _ c.in-Verbatim.is (rolls-Verbatim _)) valid (search rules))
    c.write_verbatim.ensures.full
