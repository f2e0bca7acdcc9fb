use Rattle.std.proofs.Common.{◌-◌, ◌≡◌, None, arith, false, subst, suc, sym, true}
use Rattle.format_json_extents.proofs.Pointing.{has_child, lacks_child}
use Rattle.format_json_extents.proofs.Scanning.{if_none_of_true}
use Rattle.format_json_extents.proofs.Values.{opening_no_scalar, value_nested}
use Rattle.format_json_extents.specs.Texts.{NoMatchAtStart}
use Rattle.format_json_extents.specs.Value.{IsValue}
use Rattle.format_json_extents.proofs.pointer.find_child.Goals as goal

pub returns-then-level-eq0-clause-none : goal.returns-then-level-eq0-clause-none
returns-then-level-eq0-clause-none c =
    subst (λ n. NoMatchAtStart (IsValue n) c.args.value.now) (sym c.if-level-eq0.true)
    (opening_no_scalar c.in-Some.keyed c.in-Some.ensures)

pub returns-in_err-found-in-Some-clause-none : goal.returns-in_err-found-in-Some-clause-none
returns-in_err-found-in-Some-clause-none c =
    let above : c.args.level ≡ suc (c.args.level - 1) = omega (arith, c.if-level-eq0.false) in
    if_none_of_true _ _
    (value_nested (c.args.level - 1) c.in-Some.keyed None above c.in-Some.ensures
    c.in_err-found-in-Some.ensures.none)

pub returns-then-found-clause-found : goal.returns-then-found-clause-found
returns-then-found-clause-found c =
    has_child (record {
      is_deep = omega (arith, c.if-level-eq0.false);
      opens = c.in-Some.ensures;
      is_index = c.index_for-index.ensures;
    }) _ _ c.in_ok-found-in-Some.ensures.found c.if-found.true

pub returns-then-keyed-clause-found : goal.returns-then-keyed-clause-found
returns-then-keyed-clause-found c =
    lacks_child (record {
      is_deep = omega (arith, c.if-level-eq0.false);
      opens = c.in-Some.ensures;
      is_index = c.index_for-index.ensures;
    }) _ _ c.in_ok-found-in-Some.ensures.found true c.if-keyed.true c.if-found.false

pub returns-else-keyed-clause-found : goal.returns-else-keyed-clause-found
returns-else-keyed-clause-found c =
    lacks_child (record {
      is_deep = omega (arith, c.if-level-eq0.false);
      opens = c.in-Some.ensures;
      is_index = c.index_for-index.ensures;
    }) _ _ c.in_ok-found-in-Some.ensures.found false c.if-keyed.false c.if-found.false
