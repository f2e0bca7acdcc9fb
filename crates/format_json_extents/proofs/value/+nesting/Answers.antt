use Rattle.std.proofs.Common.{◌-◌, ◌≡◌, Some, arith, rules, subst, suc, sym}
use Rattle.format_json_extents.proofs.Matching.{rest_after_left}
use Rattle.format_json_extents.proofs.Scanning.{same_matches_none, same_matches_rest}
use Rattle.format_json_extents.proofs.Scanning.{same_matches_trans, second_scans}
use Rattle.format_json_extents.proofs.Values.{empty_alone, item_no_name, items_end, items_less}
use Rattle.format_json_extents.proofs.Values.{items_more, items_stop, no_element, no_item_value}
use Rattle.format_json_extents.proofs.Values.{no_items_tail, opening_no_scalar, rest_after_element}
use Rattle.format_json_extents.proofs.Values.{rest_after_item, value_nested, value_scans}
use Rattle.format_json_extents.proofs.Values.{value_starts}
use Rattle.format_json_extents.specs.Texts.{NoByte, NoMatchAtStart}
use Rattle.format_json_extents.specs.Value.{IsValue}
use Rattle.format_json_extents.proofs.value.+nesting.Goals as goal

pub skip_items-returns-in_err-named : goal.skip_items-returns-in_err-named
skip_items-returns-in_err-named t c =
    let none = same_matches_none c.items.invariant
    (no_items_tail c.args.keyed (IsValue c.args.level)
    (item_no_name c.args.keyed (IsValue c.args.level) c.in_err-named.ensures)) in
    search rules

pub skip_items-returns-in_err-item : goal.skip_items-returns-in_err-item
skip_items-returns-in_err-item t c =
    let none = same_matches_none c.items.invariant
    (no_items_tail c.args.keyed (IsValue c.args.level)
    (no_item_value c.args.keyed c.in_ok-named.ensures
    (no_element (value_starts c.args.level) c.skip_whitespace.ensures c.in_err-item.ensures))) in
    search rules

pub skip_items-returns-in-Some : goal.skip_items-returns-in-Some
skip_items-returns-in-Some t c =
    same_matches_rest c.items.invariant (items_end c.args.keyed (IsValue c.args.level)
    (rest_after_item c.args.keyed c.in_ok-named.ensures
    (rest_after_element (value_starts c.args.level) c.skip_whitespace.ensures c.in_ok-item.ensures
    c.skip_whitespace-ahead.ensures)) c.in-Some.ensures)

pub skip_items-returns-in_err-rest-in-None : goal.skip_items-returns-in_err-rest-in-None
skip_items-returns-in_err-rest-in-None t c =
    let none = same_matches_none c.items.invariant (items_stop c.args.keyed (IsValue c.args.level)
    (rest_after_item c.args.keyed c.in_ok-named.ensures
    (rest_after_element (value_starts c.args.level) c.skip_whitespace.ensures c.in_ok-item.ensures
    c.skip_whitespace-ahead.ensures)) c.in-None.ensures c.in_err-rest-in-None.ensures) in
    search rules

pub skip_items-items-preserved : goal.skip_items-items-preserved
skip_items-items-preserved t c =
    same_matches_trans c.items.invariant (items_more c.args.keyed (IsValue c.args.level)
    (rest_after_item c.args.keyed c.in_ok-named.ensures
    (rest_after_element (value_starts c.args.level) c.skip_whitespace.ensures c.in_ok-item.ensures
    c.skip_whitespace-ahead.ensures)) c.in_ok-rest-in-None.ensures)

pub skip_items-items-smaller : goal.skip_items-items-smaller
skip_items-items-smaller t c =
    items_less c.args.keyed (IsValue c.args.level)
    (rest_after_item c.args.keyed c.in_ok-named.ensures
    (rest_after_element (value_starts c.args.level) c.skip_whitespace.ensures c.in_ok-item.ensures
    c.skip_whitespace-ahead.ensures)) c.in_ok-rest-in-None.ensures

pub skip_value-returns-then-level-eq0 : goal.skip_value-returns-then-level-eq0
skip_value-returns-then-level-eq0 t c =
    subst (λ n. NoMatchAtStart (IsValue n) c.args.bytes.now) (sym c.if-level-eq0.true)
    (opening_no_scalar c.in-Some.keyed c.in-Some.ensures)

pub skip_value-returns-in-None : goal.skip_value-returns-in-None
skip_value-returns-in-None t c =
    value_scans c.args.level _ c.skip_scalar.result c.in-None.ensures c.skip_scalar.ensures

pub skip_value-returns-in-Some-skip_empty : goal.skip_value-returns-in-Some-skip_empty
skip_value-returns-in-Some-skip_empty t c =
    let above : c.args.level ≡ suc (c.args.level - 1) = omega arith in
    value_nested (c.args.level - 1) c.in-Some.keyed (Some c.in-Some-skip_empty.rest) above
    c.in-Some.ensures
    (rest_after_left c.in-Some-skip_empty.ensures
    (empty_alone c.in-Some.keyed _ (value_starts (c.args.level - 1))
    c.in-Some-skip_empty.ensures.stands))

pub skip_value-returns-in-None-skip_empty : goal.skip_value-returns-in-None-skip_empty
skip_value-returns-in-None-skip_empty t c =
    let above : c.args.level ≡ suc (c.args.level - 1) = omega arith in
    value_nested (c.args.level - 1) c.in-Some.keyed c.skip_items.result above c.in-Some.ensures
    (second_scans _ _ NoByte _ c.skip_items.result c.in-None-skip_empty.ensures
    c.skip_items.ensures)
