use Rattle.std.proofs.Common.{◌-◌, inr, arith}
use Rattle.std.proofs.lemmas.Result.{IfErr-weaker, on_ok_weaker}
use Rattle.format_json_writer.proofs.Adding.{prefix_of_equal, prefix_of_longer, prefix_trans}
use Rattle.format_json_writer.proofs.Built.{array_put, behind_end, behind_more, joined_first}
use Rattle.format_json_writer.proofs.Built.{joined_none, list_put}
use Rattle.format_json_writer.proofs.Built.{member_put, number_put, object_put, text_put, word_put}
use Rattle.format_json_writer.proofs.Refusals.{deep_array, deep_object, err_satisfies, first_among}
use Rattle.format_json_writer.proofs.Refusals.{later_among, refused_items, refused_members}
use Rattle.format_json_writer.proofs.Refusals.{refused_number}
use Rattle.format_json_writer.proofs.nested.+write.Goals as goal

-- ---- values with commas between them

pub write_items-returns-in-None-clause-written : goal.write_items-returns-in-None-clause-written
write_items-returns-in-None-clause-written g t c = joined_none _ _ _ _ c.in-None.ensures.cases

pub write_items-loop-item-preserved : goal.write_items-loop-item-preserved
write_items-loop-item-preserved g t c =
    let held = c.loop-item.invariant in
    let put = c.in_ok-push-in-Some.ensures.bytes in
    let line = c.in_ok-put_line-in-Some.ensures in
    let written = c.in_ok-write_nested-in-Some-2.ensures in record {
      ends = λ after more. held.ends after (behind_more c.args.layout _ c.loop-item.item-index
          c.item-item.result (omega arith) c.item-item.is put line.written written.written more);
      kept = prefix_trans held.kept
          (prefix_trans (prefix_of_longer _ put) (prefix_trans line.kept written.kept));
    }

pub write_items-returns-after-loop-item-clause-written :
    goal.write_items-returns-after-loop-item-clause-written
write_items-returns-after-loop-item-clause-written g t c =
    joined_first c.args.layout c.in-Some.ensures.cases.0
    c.in_ok-write_nested-in-Some.ensures.written (c.loop-item.invariant.ends _
    (behind_end _ c.args.layout _ c.loop-item.item-index _ (omega arith)))

pub write_items-returns-after-loop-item-clause-kept :
    goal.write_items-returns-after-loop-item-clause-kept
write_items-returns-after-loop-item-clause-kept g t c =
    prefix_trans c.in_ok-write_nested-in-Some.ensures.kept c.loop-item.invariant.kept

pub write_items-returns-in_err-write_nested-in-Some-2-clause-kept :
    goal.write_items-returns-in_err-write_nested-in-Some-2-clause-kept
write_items-returns-in_err-write_nested-in-Some-2-clause-kept g t c =
    prefix_trans c.in_ok-write_nested-in-Some.ensures.kept
    (prefix_trans c.loop-item.invariant.kept
    (prefix_trans (prefix_of_longer _ c.in_ok-push-in-Some.ensures.bytes)
    (prefix_trans c.in_ok-put_line-in-Some.ensures.kept
    c.in_err-write_nested-in-Some-2.ensures.kept)))

pub write_items-returns-in_err-write_nested-in-Some-clause-refused :
    goal.write_items-returns-in_err-write_nested-in-Some-clause-refused
write_items-returns-in_err-write_nested-in-Some-clause-refused g t c =
    err_satisfies _ c.from_residual.result _ c.from_residual.ensures.1
    (inr (
      _,
      first_among _ c.in-Some.ensures.cases.0,
      c.in_err-write_nested-in-Some.ensures.refused,
    ))

pub write_items-returns-in_err-write_nested-in-Some-2-clause-refused :
    goal.write_items-returns-in_err-write_nested-in-Some-2-clause-refused
write_items-returns-in_err-write_nested-in-Some-2-clause-refused g t c =
    err_satisfies _ c.from_residual-in_err-write_nested-in-Some-2.result _
    c.from_residual-in_err-write_nested-in-Some-2.ensures.1
    (inr (
      c.item-item.result,
      later_among c.loop-item.item-index c.item-item.result
          c.in-Some.ensures.cases.0 (omega arith) c.item-item.is,
      c.in_err-write_nested-in-Some-2.ensures.refused,
    ))

-- ---- an array

pub write_array-returns-then-level-eq0-clause-refused :
    goal.write_array-returns-then-level-eq0-clause-refused
write_array-returns-then-level-eq0-clause-refused g t c =
    deep_array c.args.items.now (omega arith)

pub write_array-returns-in_err-write_items-clause-refused :
    goal.write_array-returns-in_err-write_items-clause-refused
write_array-returns-in_err-write_items-clause-refused g t c =
    err_satisfies _ c.from_residual-in_err-write_items.result _
    c.from_residual-in_err-write_items.ensures.1
    (refused_items (c.args.level - 1) c.args.items.now _ c.as_slice-list.ensures.value (omega arith)
    c.in_err-write_items.ensures.refused)

pub write_array-returns-in_err-push-clause-kept : goal.write_array-returns-in_err-push-clause-kept
write_array-returns-in_err-push-clause-kept g t c = prefix_of_equal c.in_err-push.ensures.bytes

pub write_array-returns-in_err-write_items-clause-kept :
    goal.write_array-returns-in_err-write_items-clause-kept
write_array-returns-in_err-write_items-clause-kept g t c =
    prefix_trans (prefix_of_longer _ c.in_ok-push.ensures.bytes)
    (prefix_trans c.in_ok-put_line_in.ensures.kept c.in_err-write_items.ensures.kept)

pub write_array-returns-clause-written : goal.write_array-returns-clause-written
write_array-returns-clause-written g t c =
    array_put (c.args.level - 1) c.args.layout (omega arith) c.in_ok-inner.ensures.deeper
    (list_put _ c.args.layout _ 91 93 c.args.items.now c.as_slice-list.ensures.value
    c.in_ok-push.ensures.bytes c.in_ok-put_line_in.ensures.written
    c.in_ok-write_items.ensures.written c.in_ok-put_line_in-2.ensures.written
    c.in_ok-push-2.ensures.bytes)

-- ---- a member

pub write_member-returns-clause-written : goal.write_member-returns-clause-written
write_member-returns-clause-written g t c =
    on_ok_weaker c.write_nested.result
    (member_put c.args.layout c.args.member.now c.as_str.ensures.value c.as_str.utf8
    c.in_ok-write_string.ensures.written c.in_ok-push.ensures.bytes
    c.in_ok-put_space.ensures.written)
    c.write_nested.ensures.written

-- ---- members with commas between them

pub write_members-returns-in-None-clause-written :
    goal.write_members-returns-in-None-clause-written
write_members-returns-in-None-clause-written g t c = joined_none _ _ _ _ c.in-None.ensures.cases

pub write_members-loop-member-preserved : goal.write_members-loop-member-preserved
write_members-loop-member-preserved g t c =
    let held = c.loop-member.invariant in
    let put = c.in_ok-push-in-Some.ensures.bytes in
    let line = c.in_ok-put_line-in-Some.ensures in
    let written = c.in_ok-write_member-in-Some-2.ensures in record {
      ends = λ after more. held.ends after (behind_more c.args.layout _ c.loop-member.member-index
          c.member-item.result (omega arith) c.member-item.is put line.written written.written
          more);
      kept = prefix_trans held.kept
          (prefix_trans (prefix_of_longer _ put) (prefix_trans line.kept written.kept));
    }

pub write_members-returns-after-loop-member-clause-written :
    goal.write_members-returns-after-loop-member-clause-written
write_members-returns-after-loop-member-clause-written g t c =
    joined_first c.args.layout c.in-Some.ensures.cases.0
    c.in_ok-write_member-in-Some.ensures.written (c.loop-member.invariant.ends _
    (behind_end _ c.args.layout _ c.loop-member.member-index _ (omega arith)))

pub write_members-returns-after-loop-member-clause-kept :
    goal.write_members-returns-after-loop-member-clause-kept
write_members-returns-after-loop-member-clause-kept g t c =
    prefix_trans c.in_ok-write_member-in-Some.ensures.kept c.loop-member.invariant.kept

pub write_members-returns-in_err-write_member-in-Some-2-clause-kept :
    goal.write_members-returns-in_err-write_member-in-Some-2-clause-kept
write_members-returns-in_err-write_member-in-Some-2-clause-kept g t c =
    prefix_trans c.in_ok-write_member-in-Some.ensures.kept
    (prefix_trans c.loop-member.invariant.kept
    (prefix_trans (prefix_of_longer _ c.in_ok-push-in-Some.ensures.bytes)
    (prefix_trans c.in_ok-put_line-in-Some.ensures.kept
    c.in_err-write_member-in-Some-2.ensures.kept)))

pub write_members-returns-in_err-write_member-in-Some-clause-refused :
    goal.write_members-returns-in_err-write_member-in-Some-clause-refused
write_members-returns-in_err-write_member-in-Some-clause-refused g t c =
    err_satisfies _ c.from_residual.result _ c.from_residual.ensures.1
    (inr (
      _,
      first_among _ c.in-Some.ensures.cases.0,
      c.in_err-write_member-in-Some.ensures.refused,
    ))

pub write_members-returns-in_err-write_member-in-Some-2-clause-refused :
    goal.write_members-returns-in_err-write_member-in-Some-2-clause-refused
write_members-returns-in_err-write_member-in-Some-2-clause-refused g t c =
    err_satisfies _ c.from_residual-in_err-write_member-in-Some-2.result _
    c.from_residual-in_err-write_member-in-Some-2.ensures.1
    (inr (
      c.member-item.result,
      later_among c.loop-member.member-index c.member-item.result
          c.in-Some.ensures.cases.0 (omega arith) c.member-item.is,
      c.in_err-write_member-in-Some-2.ensures.refused,
    ))

-- ---- an object

pub write_object-returns-then-level-eq0-clause-refused :
    goal.write_object-returns-then-level-eq0-clause-refused
write_object-returns-then-level-eq0-clause-refused g t c =
    deep_object c.args.members.now (omega arith)

pub write_object-returns-in_err-write_members-clause-refused :
    goal.write_object-returns-in_err-write_members-clause-refused
write_object-returns-in_err-write_members-clause-refused g t c =
    err_satisfies _ c.from_residual-in_err-write_members.result _
    c.from_residual-in_err-write_members.ensures.1
    (refused_members (c.args.level - 1) c.args.members.now _ c.as_slice-list.ensures.value
    (omega arith) c.in_err-write_members.ensures.refused)

pub write_object-returns-in_err-push-clause-kept : goal.write_object-returns-in_err-push-clause-kept
write_object-returns-in_err-push-clause-kept g t c = prefix_of_equal c.in_err-push.ensures.bytes

pub write_object-returns-in_err-write_members-clause-kept :
    goal.write_object-returns-in_err-write_members-clause-kept
write_object-returns-in_err-write_members-clause-kept g t c =
    prefix_trans (prefix_of_longer _ c.in_ok-push.ensures.bytes)
    (prefix_trans c.in_ok-put_line_in.ensures.kept c.in_err-write_members.ensures.kept)

pub write_object-returns-clause-written : goal.write_object-returns-clause-written
write_object-returns-clause-written g t c =
    object_put (c.args.level - 1) c.args.layout (omega arith) c.in_ok-inner.ensures.deeper
    (list_put _ c.args.layout _ 123 125 c.args.members.now c.as_slice-list.ensures.value
    c.in_ok-push.ensures.bytes c.in_ok-put_line_in.ensures.written
    c.in_ok-write_members.ensures.written c.in_ok-put_line_in-2.ensures.written
    c.in_ok-push-2.ensures.bytes)

-- ---- a value

pub write_nested-returns-in-Null-clause-written : goal.write_nested-returns-in-Null-clause-written
write_nested-returns-in-Null-clause-written g t c =
    on_ok_weaker c.write_word.result (word_put c.args.layout c.args.level _ c.in-Null.is)
    c.write_word.ensures.written

pub write_nested-returns-in-Boolean-clause-written :
    goal.write_nested-returns-in-Boolean-clause-written
write_nested-returns-in-Boolean-clause-written g t c =
    on_ok_weaker c.write_word-in-Boolean.result
    (word_put c.args.layout c.args.level _ c.in-Boolean.is)
    c.write_word-in-Boolean.ensures.written

pub write_nested-returns-in-Number-clause-written :
    goal.write_nested-returns-in-Number-clause-written
write_nested-returns-in-Number-clause-written g t c =
    on_ok_weaker c.write_number.result
    (number_put c.args.layout c.args.level _ c.in-Number.is c.as_str.ensures.value c.as_str.utf8)
    c.write_number.ensures.written

pub write_nested-returns-in-Number-clause-refused :
    goal.write_nested-returns-in-Number-clause-refused
write_nested-returns-in-Number-clause-refused g t c =
    IfErr-weaker c.write_number.result _ _
    (λ e. refused_number c.args.level _ e c.in-Number.is c.as_str.ensures.value
    c.as_str.utf8) c.write_number.ensures.none

pub write_nested-returns-in_ok-write_string-in-Text-clause-written :
    goal.write_nested-returns-in_ok-write_string-in-Text-clause-written
write_nested-returns-in_ok-write_string-in-Text-clause-written g t c =
    text_put c.args.layout c.args.level _ c.in-Text.is c.as_str-in-Text.ensures.value
    c.as_str-in-Text.utf8 c.in_ok-write_string-in-Text.ensures.written

-- ---- what is kept if whitespace is out of memory

pub write_items-returns-in_err-put_line-in-Some-clause-kept :
    goal.write_items-returns-in_err-put_line-in-Some-clause-kept
write_items-returns-in_err-put_line-in-Some-clause-kept g t c =
    prefix_trans c.in_ok-write_nested-in-Some.ensures.kept
    (prefix_trans c.loop-item.invariant.kept
    (prefix_trans (prefix_of_longer _ c.in_ok-push-in-Some.ensures.bytes)
    c.in_err-put_line-in-Some.ensures.kept))

pub write_members-returns-in_err-put_line-in-Some-clause-kept :
    goal.write_members-returns-in_err-put_line-in-Some-clause-kept
write_members-returns-in_err-put_line-in-Some-clause-kept g t c =
    prefix_trans c.in_ok-write_member-in-Some.ensures.kept
    (prefix_trans c.loop-member.invariant.kept
    (prefix_trans (prefix_of_longer _ c.in_ok-push-in-Some.ensures.bytes)
    c.in_err-put_line-in-Some.ensures.kept))

pub write_array-returns-in_err-put_line_in-2-clause-kept :
    goal.write_array-returns-in_err-put_line_in-2-clause-kept
write_array-returns-in_err-put_line_in-2-clause-kept g t c =
    prefix_trans (prefix_of_longer _ c.in_ok-push.ensures.bytes)
    (prefix_trans c.in_ok-put_line_in.ensures.kept
    (prefix_trans c.in_ok-write_items.ensures.kept c.in_err-put_line_in-2.ensures.kept))

pub write_array-returns-clause-kept : goal.write_array-returns-clause-kept
write_array-returns-clause-kept g t c =
    prefix_trans (prefix_of_longer _ c.in_ok-push.ensures.bytes)
    (prefix_trans c.in_ok-put_line_in.ensures.kept
    (prefix_trans c.in_ok-write_items.ensures.kept
    (prefix_trans c.in_ok-put_line_in-2.ensures.kept
    (prefix_of_longer _ c.in_ok-push-2.ensures.bytes))))
