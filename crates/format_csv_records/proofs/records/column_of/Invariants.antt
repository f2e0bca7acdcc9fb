use Rattle.std.proofs.Common.{◌≡◌, ℕ, ◌<◌, Some}
use Rattle.format_csv_records.specs.Records.{field_at, fields_of}
use Rattle.format_csv_records.proofs.records.column_of.Given as goal

abbrev pub invariant-loop-place : goal.invariant-loop-place
invariant-loop-place g l = (k : ℕ) → k < l.place
    → field_at (fields_of l.header) k ≡ Some l.name → ⊥
