use Rattle.std.proofs.Common.{◌≡◌, ◌++◌, List, ℕ, length}
use Rattle.format_csv_records.specs.Dialects.{doubled}
use Rattle.format_csv_records.proofs.write.write_doubled.Given as goal

abbrev pub invariant-runs : goal.invariant-runs
invariant-runs g l = (done : List ℕ) × (l.field ≡ done ++ l.rest)
    × (l.out.items ≡ l.fn.out.items ++ doubled l.quote done)

abbrev pub decreases-runs : goal.decreases-runs
decreases-runs g l = length l.rest
