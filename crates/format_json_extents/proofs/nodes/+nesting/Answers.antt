use Rattle.std.proofs.Common.{◌-◌, ◌≡◌, None, Some, arith, rules, suc}
use Rattle.format_json_extents.proofs.Matching.{rest_after_left}
use Rattle.format_json_extents.proofs.Scanning.{same_matches_none, same_matches_refl}
use Rattle.format_json_extents.proofs.Scanning.{same_matches_rest, same_matches_trans}
use Rattle.format_json_extents.proofs.Values.{empty_alone, item_no_name, items_end, items_more}
use Rattle.format_json_extents.proofs.Values.{items_stop, no_element, no_item_value, no_items_tail}
use Rattle.format_json_extents.proofs.Values.{rest_after_element, rest_after_item, value_nested}
use Rattle.format_json_extents.proofs.Values.{value_starts}
use Rattle.format_json_extents.specs.Texts.{NoMatchAtStart}
use Rattle.format_json_extents.specs.Value.{IsValue}
use Rattle.format_json_extents.proofs.NodeNesting.{items_room, items_skip, last_item, more_items}
use Rattle.format_json_extents.proofs.NodeNesting.{nested_writes, no_items, scalar_skip, tail_empty}
use Rattle.format_json_extents.proofs.NodeNesting.{value_nested_writes, value_scalar_writes}
use Rattle.format_json_extents.proofs.NodeWriting.{item_written}
use Rattle.format_json_extents.specs.Nodes.{ValueNodes}
use Rattle.format_json_extents.proofs.nodes.+nesting.Goals as goal

pub put_inside-returns-in-Some-clause-rest : goal.put_inside-returns-in-Some-clause-rest
put_inside-returns-in-Some-clause-rest t c =
    rest_after_left c.in-Some.ensures
    (empty_alone c.args.keyed _ (value_starts c.args.level) c.in-Some.ensures.stands)

pub put_inside-returns-in-Some-clause-nodes : goal.put_inside-returns-in-Some-clause-nodes
put_inside-returns-in-Some-clause-nodes t c =
    tail_empty c.args.keyed (ValueNodes c.args.level) c.args.size c.args.index c.args.nodes.now
    c.in-Some.ensures

pub put_inside-returns-in-None-clause-rest : goal.put_inside-returns-in-None-clause-rest
put_inside-returns-in-None-clause-rest t c =
    items_skip c.args.keyed (IsValue c.args.level) c.args.bytes.now c.put_items.result
    c.in-None.ensures c.put_items.ensures.rest

pub put_items-items-init : goal.put_items-items-init
put_items-items-init t c = record {
  same = same_matches_refl;
  wrote = no_items c.args.keyed (ValueNodes c.args.level) c.args.size c.args.index
      c.args.nodes.now;
}

pub put_items-returns-in_err-first-clause-rest : goal.put_items-returns-in_err-first-clause-rest
put_items-returns-in_err-first-clause-rest t c =
    let none = same_matches_none c.items.invariant.same
    (no_items_tail c.args.keyed (IsValue c.args.level)
    (item_no_name c.args.keyed (IsValue c.args.level) c.in_err-first.ensures.rest)) in
    search rules

pub put_items-returns-in_err-next-clause-rest : goal.put_items-returns-in_err-next-clause-rest
put_items-returns-in_err-next-clause-rest t c =
    let none = same_matches_none c.items.invariant.same
    (no_items_tail c.args.keyed (IsValue c.args.level)
    (no_item_value c.args.keyed c.in_ok-first.ensures.rest
    (no_element (value_starts c.args.level) c.skip_whitespace.ensures
    c.in_err-next.ensures.rest))) in
    search rules

pub put_items-returns-in-Some-clause-rest : goal.put_items-returns-in-Some-clause-rest
put_items-returns-in-Some-clause-rest t c =
    same_matches_rest c.items.invariant.same (items_end c.args.keyed (IsValue c.args.level)
    (rest_after_item c.args.keyed c.in_ok-first.ensures.rest
    (rest_after_element (value_starts c.args.level) c.skip_whitespace.ensures
    c.in_ok-next.ensures.rest
    c.skip_whitespace-ahead.ensures)) c.in-Some.ensures)

pub put_items-returns-in-Some-clause-nodes : goal.put_items-returns-in-Some-clause-nodes
put_items-returns-in-Some-clause-nodes t c =
    let V = ValueNodes c.args.level in
    let room = items_room c.args.keyed V c.args.size c.args.index c.items.invariant.wrote in
    last_item c.args.keyed V c.args.size c.args.index c.items.invariant.wrote
    (item_written c.args.keyed V c.args.size c.items.count (omega (arith, room, c.requires))
    c.in_ok-first.ensures.nodes c.skip_whitespace.ensures c.in_ok-next.ensures.nodes
    c.skip_whitespace-ahead.ensures) c.in-Some.ensures

pub put_items-returns-in_err-rest-in-None-clause-rest :
    goal.put_items-returns-in_err-rest-in-None-clause-rest
put_items-returns-in_err-rest-in-None-clause-rest t c =
    let none = same_matches_none c.items.invariant.same
    (items_stop c.args.keyed (IsValue c.args.level)
    (rest_after_item c.args.keyed c.in_ok-first.ensures.rest
    (rest_after_element (value_starts c.args.level) c.skip_whitespace.ensures
    c.in_ok-next.ensures.rest
    c.skip_whitespace-ahead.ensures)) c.in-None.ensures c.in_err-rest-in-None.ensures) in
    search rules

pub put_items-items-preserved : goal.put_items-items-preserved
put_items-items-preserved t c =
    let V = ValueNodes c.args.level in
    let room = items_room c.args.keyed V c.args.size c.args.index c.items.invariant.wrote in
    record {
      same = same_matches_trans c.items.invariant.same
          (items_more c.args.keyed (IsValue c.args.level)
          (rest_after_item c.args.keyed c.in_ok-first.ensures.rest
          (rest_after_element (value_starts c.args.level) c.skip_whitespace.ensures
          c.in_ok-next.ensures.rest c.skip_whitespace-ahead.ensures))
          c.in_ok-rest-in-None.ensures);
      wrote = more_items c.args.keyed V c.args.size c.args.index c.items.invariant.wrote
          (item_written c.args.keyed V c.args.size c.items.count (omega (arith, room, c.requires))
          c.in_ok-first.ensures.nodes c.skip_whitespace.ensures c.in_ok-next.ensures.nodes
          c.skip_whitespace-ahead.ensures)
          (omega (arith, room, c.requires)) c.in_ok-rest-in-None.ensures;
    }

pub put_value-returns-in_err-next-in-Some-clause-rest :
    goal.put_value-returns-in_err-next-in-Some-clause-rest
put_value-returns-in_err-next-in-Some-clause-rest t c =
    let above : c.args.level ≡ suc (c.args.level - 1) = omega arith in
    let none : NoMatchAtStart (IsValue c.args.level) c.args.bytes.now =
    value_nested (c.args.level - 1) c.in-Some.keyed None above c.in-Some.ensures
    c.in_err-next-in-Some.ensures.rest in
    search rules

pub put_value-returns-in_ok-next-in-Some-clause-rest :
    goal.put_value-returns-in_ok-next-in-Some-clause-rest
put_value-returns-in_ok-next-in-Some-clause-rest t c =
    let above : c.args.level ≡ suc (c.args.level - 1) = omega arith in
    value_nested (c.args.level - 1) c.in-Some.keyed (Some c.in_ok-next-in-Some.rest) above
    c.in-Some.ensures c.in_ok-next-in-Some.ensures.rest

pub put_value-returns-in_ok-next-in-Some-clause-nodes :
    goal.put_value-returns-in_ok-next-in-Some-clause-nodes
put_value-returns-in_ok-next-in-Some-clause-nodes t c =
    let above : c.args.level ≡ suc (c.args.level - 1) = omega arith in
    value_nested_writes (c.args.level - 1) c.in-Some.keyed above
    (nested_writes c.in-Some.keyed (ValueNodes (c.args.level - 1)) c.args.size c.args.index
    c.requires c.in-Some.ensures c.kind_of_nested.ensures c.in_ok-next-in-Some.ensures.nodes
    c.put.ensures)

pub put_value-returns-in-None-clause-rest : goal.put_value-returns-in-None-clause-rest
put_value-returns-in-None-clause-rest t c =
    scalar_skip c.args.level c.args.bytes.now c.put_scalar.result c.in-None.ensures
    c.put_scalar.ensures.rest

pub put_value-returns-in-None-clause-nodes : goal.put_value-returns-in-None-clause-nodes
put_value-returns-in-None-clause-nodes t c =
    value_scalar_writes c.args.level c.args.size c.args.index c.args.bytes.now c.args.nodes.now
    c.put_scalar.new.nodes c.put_scalar.result c.put_scalar.ensures.nodes
