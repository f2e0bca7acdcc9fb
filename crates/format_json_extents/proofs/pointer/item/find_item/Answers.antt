use Rattle.std.proofs.Common.{inl}
use Rattle.format_json_extents.proofs.Matching.{no_match_of_either}
use Rattle.format_json_extents.proofs.Pointing.{has_item, lacks_item, passes_more}
use Rattle.format_json_extents.proofs.Scanning.{if_none_of_true, same_matches_none}
use Rattle.format_json_extents.proofs.Scanning.{same_matches_refl, same_matches_trans}
use Rattle.format_json_extents.proofs.Values.{item_no_name, items_less, items_more, items_stop}
use Rattle.format_json_extents.proofs.Values.{no_element, no_item_value, no_items_tail}
use Rattle.format_json_extents.proofs.Values.{rest_after_element, rest_after_item, value_starts}
use Rattle.format_json_extents.specs.Pointer.{passes_nothing}
use Rattle.format_json_extents.specs.Value.{IsValue}
use Rattle.format_json_extents.proofs.pointer.item.find_item.Goals as goal

pub items-init : goal.items-init
items-init c = record { same = same_matches_refl; passes = passes_nothing }

pub returns-in-Some-clause-found : goal.returns-in-Some-clause-found
returns-in-Some-clause-found c = inl (_, c.in-Some.ensures.stands)

pub returns-in_err-same-clause-none : goal.returns-in_err-same-clause-none
returns-in_err-same-clause-none c =
    let V = IsValue c.args.level in
    if_none_of_true _ _
    (no_match_of_either c.in-None.ensures (same_matches_none c.items.invariant.same
    (no_items_tail c.args.keyed V (item_no_name c.args.keyed V c.in_err-same.ensures.rest))))

pub returns-in_err-end-clause-none : goal.returns-in_err-end-clause-none
returns-in_err-end-clause-none c =
    if_none_of_true _ _
    (no_match_of_either c.in-None.ensures (same_matches_none c.items.invariant.same
    (no_items_tail c.args.keyed (IsValue c.args.level)
    (no_item_value c.args.keyed c.in_ok-same.ensures.rest
    (no_element (value_starts c.args.level) c.skip_whitespace-start.ensures
    c.in_err-end.ensures)))))

pub returns-then-same-clause-found : goal.returns-then-same-clause-found
returns-then-same-clause-found c =
    has_item c.items.invariant.passes c.if-same.true c.in_ok-same.ensures.sought
    c.in_ok-same.ensures.rest.stands c.skip_whitespace-start.ensures.stands c.in_ok-end.ensures

pub returns-in-Some-skip_closing-clause-found : goal.returns-in-Some-skip_closing-clause-found
returns-in-Some-skip_closing-clause-found c =
    lacks_item c.items.invariant.passes c.if-same.false c.in_ok-same.ensures.sought
    (rest_after_item c.args.keyed c.in_ok-same.ensures.rest
    (rest_after_element (value_starts c.args.level) c.skip_whitespace-start.ensures
    c.in_ok-end.ensures
    c.skip_whitespace-ahead.ensures)) c.in-Some-skip_closing.ensures

pub returns-in_err-rest-in-None-skip_closing-clause-none :
    goal.returns-in_err-rest-in-None-skip_closing-clause-none
returns-in_err-rest-in-None-skip_closing-clause-none c =
    if_none_of_true _ _
    (no_match_of_either c.in-None.ensures (same_matches_none c.items.invariant.same
    (items_stop c.args.keyed (IsValue c.args.level)
    (rest_after_item c.args.keyed c.in_ok-same.ensures.rest
    (rest_after_element (value_starts c.args.level) c.skip_whitespace-start.ensures
    c.in_ok-end.ensures
    c.skip_whitespace-ahead.ensures)) c.in-None-skip_closing.ensures
    c.in_err-rest-in-None-skip_closing.ensures)))

pub items-preserved : goal.items-preserved
items-preserved c =
    let item = rest_after_item c.args.keyed c.in_ok-same.ensures.rest
    (rest_after_element (value_starts c.args.level) c.skip_whitespace-start.ensures
    c.in_ok-end.ensures
    c.skip_whitespace-ahead.ensures) in
    record {
      same = same_matches_trans c.items.invariant.same
          (items_more c.args.keyed (IsValue c.args.level) item
          c.in_ok-rest-in-None-skip_closing.ensures);
      passes = passes_more c.items.invariant.passes c.if-same.false
          c.in_ok-same.ensures.sought item c.in_ok-rest-in-None-skip_closing.ensures
          c.lower-left.ensures;
    }

pub items-smaller : goal.items-smaller
items-smaller c =
    items_less c.args.keyed (IsValue c.args.level)
    (rest_after_item c.args.keyed c.in_ok-same.ensures.rest
    (rest_after_element (value_starts c.args.level) c.skip_whitespace-start.ensures
    c.in_ok-end.ensures
    c.skip_whitespace-ahead.ensures)) c.in_ok-rest-in-None-skip_closing.ensures
