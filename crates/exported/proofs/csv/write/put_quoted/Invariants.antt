use Rattle.std.proofs.Common.{◌∷◌, take}
use Rattle.exported.specs.Output.{Puts}
use Rattle.format_csv_records.specs.Dialects.{doubled}
use Rattle.exported.proofs.csv.write.put_quoted.Given as goal

abbrev pub invariant-loop-place : goal.invariant-loop-place
invariant-loop-place l =
    Puts (l.quote ∷ doubled l.quote (take l.place l.field)) l.at l.fn.buffer l.end l.buffer
