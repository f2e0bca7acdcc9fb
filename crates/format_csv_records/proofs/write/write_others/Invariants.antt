use Rattle.std.proofs.Common.{◌≡◌, ◌++◌, List, ℕ, take}
use Rattle.format_csv_records.specs.Written.{WrittenFields, bytes_of}
use Rattle.format_csv_records.proofs.write.write_others.Given as goal

abbrev pub invariant-loop-field : goal.invariant-loop-field
invariant-loop-field g l = (text : List ℕ)
    × WrittenFields l.dialect (bytes_of (take l.field-index l.fields)) text
    × (l.out.items ≡ l.fn.out.items ++ text)
