use Rattle.std.proofs.Common.{rules}
use Rattle.format_csv.proofs.Tables.{all_before_end, all_before_next, is_first_at_place}
use Rattle.format_csv.specs.Table.{OtherName}
use Rattle.format_csv.proofs.table.column_of.Goals as goal

pub returns-then-eq : goal.returns-then-eq
returns-then-eq g c =
    is_first_at_place _ _ _ _ c.index-header-place.is c.loop-place-test.true c.loop-place.invariant
    (search rules)

pub loop-place-preserved : goal.loop-place-preserved
loop-place-preserved g c =
    all_before_next (OtherName c.args.name.now) _ _ _ c.index-header-place.is c.loop-place-test.true
    c.loop-place.invariant
    (search rules)

pub returns : goal.returns
returns g c = all_before_end (OtherName c.args.name.now) _ _ c.loop-place-test.false
    c.loop-place.invariant
