use Rattle.std.proofs.Common.{List, take, ℕ}
use Rattle.exported.specs.CsvWrite.{contents}
use Rattle.exported.specs.Output.{Puts}
use Rattle.format_csv_records.specs.Written.{WrittenFields}
use Rattle.exported.proofs.csv.write.put_others.Given as goal

abbrev pub invariant-loop-number : goal.invariant-loop-number
invariant-loop-number l = (text : List ℕ)
    × WrittenFields l.dialect (contents (take l.number l.fields)) text
    × Puts text 0 l.fn.buffer l.end l.buffer
