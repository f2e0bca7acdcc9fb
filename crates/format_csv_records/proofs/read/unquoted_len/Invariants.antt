use Rattle.std.proofs.Common.{take}
use Rattle.std.specs.List.{All}
use Rattle.format_csv_records.specs.Parts.{IsNotQuote}
use Rattle.format_csv_records.proofs.read.unquoted_len.Given as goal

abbrev pub invariant-loop-place : goal.invariant-loop-place
invariant-loop-place l = All (IsNotQuote l.quote) (take l.place l.bytes)
