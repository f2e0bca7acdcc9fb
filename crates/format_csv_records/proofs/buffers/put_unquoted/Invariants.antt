use Rattle.std.proofs.Common.{◌≡◌, ◌+◌, drop}
use Rattle.format_csv_records.specs.Parts.{IsNotQuote}
use Rattle.format_csv_records.proofs.Placing.{RunSoFar}
use Rattle.format_csv_records.proofs.buffers.put_unquoted.Given as goal

abbrev pub invariant-loop-place : goal.invariant-loop-place
invariant-loop-place l =
    RunSoFar (IsNotQuote l.quote) l.bytes l.at l.fn.text l.text l.place
    × (drop (l.at + l.place) l.text ≡ drop (l.at + l.place) l.fn.text)
