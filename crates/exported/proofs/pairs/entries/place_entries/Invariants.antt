-- The places of the entries so far.
use Rattle.std.proofs.Common.{◌≡◌, ◌+◌, ◌<◌, drop, length, map, slice_index_or, take, ℕ}
use Rattle.readers.specs.Sections.{pair_text}
use Rattle.exported.specs.Pairs.{EntryText, ShowsEntry, text_of}
use Rattle.exported.specs.declared.pairs.PairEntry.{PairEntry}
use Rattle.exported.proofs.pairs.entries.place_entries.Given as goal

abbrev pub invariant-loop-number : goal.invariant-loop-number
invariant-loop-number l = record {
  ends : l.offset ≡ length (text_of (take l.number (map pair_text l.found)));
  shown : (k : ℕ) (p : PairEntry) (e : EntryText) → k < l.number
      → ShowsEntry (text_of (map pair_text l.found)) (slice_index_or l.entries k p)
      (slice_index_or (map pair_text l.found) k e) (drop (k + 1) (map pair_text l.found));
}
