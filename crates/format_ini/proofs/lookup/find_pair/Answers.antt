use Rattle.format_ini.proofs.Passed.{so_far_first, so_far_more}
use Rattle.format_ini.proofs.lookup.find_pair.Goals as goal

pub entries-init : goal.entries-init
entries-init c = so_far_first _ _ _ _ _ _ c.begin-reading.ensures
    c.are_equal-within.ensures

pub entries-preserved : goal.entries-preserved
entries-preserved c = so_far_more _ _ _ _ _ _ _ c.entries.invariant c.in-Ok-Some.placed _
    (rw c.in-Ok-Some.field-0-is at c.in-Ok-Some.ensures) c.if-is_for.ensures
    c.is_within-within.ensures
