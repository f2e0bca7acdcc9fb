-- The invariant: the buffer starts with the bytes of the entries so far.
use Rattle.std.proofs.Common.{◌≡◌, length, map, take}
use Rattle.readers.specs.Sections.{pair_text}
use Rattle.exported.specs.Pairs.{text_of}
use Rattle.exported.proofs.pairs.entries.copy_entries.Given as goal

abbrev pub invariant-loop-number : goal.invariant-loop-number
invariant-loop-number l = record {
  ends : l.end ≡ length (text_of (take l.number (map pair_text l.found)));
  copied : take l.end l.text ≡ text_of (take l.number (map pair_text l.found));
}
