use Rattle.std.proofs.Common.{◌≡◌, ◌+◌, drop}
use Rattle.format_csv_records.specs.Dialects.{IsPlain}
use Rattle.format_csv_records.proofs.Placing.{RunSoFar}
use Rattle.format_csv_records.proofs.buffers.put_plain.Given as goal

abbrev pub invariant-loop-place : goal.invariant-loop-place
invariant-loop-place l =
    RunSoFar (IsPlain l.dialect) l.bytes l.at l.fn.text l.text l.place
    × (drop (l.at + l.place) l.text ≡ drop (l.at + l.place) l.fn.text)
