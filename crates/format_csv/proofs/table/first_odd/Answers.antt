use Rattle.std.proofs.Common.{refl, rules}
use Rattle.format_csv.proofs.Tables.{all_before_end, all_before_next, is_first_at_place}
use Rattle.format_csv.specs.Table.{HasWidth}
use Rattle.format_csv.proofs.table.first_odd.Goals as goal

pub returns-then-has-wants : goal.returns-then-has-wants
returns-then-has-wants g c = (
  refl,
  _,
  refl,
  is_first_at_place _ _ _ _ c.index-records-place.is c.loop-place-test.true c.loop-place.invariant
      (search rules, c.if-has-wants.true),
)

pub loop-place-preserved : goal.loop-place-preserved
loop-place-preserved g c =
    all_before_next (HasWidth c.args.wants) _ _ _ c.index-records-place.is c.loop-place-test.true
    c.loop-place.invariant
    (search rules)

pub returns : goal.returns
returns g c = all_before_end (HasWidth c.args.wants) _ _ c.loop-place-test.false
    c.loop-place.invariant
