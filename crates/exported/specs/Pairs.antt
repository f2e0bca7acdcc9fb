-- Documents of sections and pairs, and where their texts are written.
use Rattle.std.specs.Prelude.{◌≡◌, ◌+◌, ◌<◌, ℕ, List, [], ◌∷◌, ◌++◌, drop, length}
use Rattle.std.specs.Prelude.{slice_index_or}
use Rattle.std.specs.List.{flat_map}
use Rattle.readers.specs.Document.{HasSections, SectionText}
use Rattle.readers.specs.Pair.{IsPairLine}
use Rattle.exported.specs.Span.{StandsAt}
use Rattle.exported.specs.declared.pairs.PairSizes.{PairSizes}
use Rattle.exported.specs.declared.pairs.PairEntry.{PairEntry}
use Rattle.exported.specs.declared.pairs.Pair.{Pair}

-- `ShowsPair line places`: `line` consists of a key and a value at these spans. The key is followed
-- by `=` and the value; the value by the end of the line, the first part of `is_line`.
pub record ShowsPair (line : List ℕ) (places : Pair) : Type 0 where
  pub key : List ℕ
  pub value : List ℕ
  pub is_line : IsPairLine line key value
  pub key_stands : StandsAt line places.key key (61 ∷ (value ++ is_line.0))
  pub value_stands : StandsAt line places.value value is_line.0

-- The key and the value of an entry. The head of a section has no key, and its name as the value.
abbrev pub EntryText : Type 0
EntryText = List ℕ × List ℕ

-- the head of each section, and its pairs after it
abbrev pub entries_of : List SectionText → List EntryText
entries_of sections = flat_map (λ s. ([], s.0) ∷ s.1) sections

-- the concatenated bytes of entries
abbrev pub text_of : List EntryText → List ℕ
text_of entries = flat_map (λ e. e.0 ++ e.1) entries

-- `ShowsEntry text places entry others`: `entry` is at these spans of `text`, its key before its
-- value, followed by the bytes of `others`.
abbrev pub ShowsEntry : List ℕ → PairEntry → EntryText → List EntryText → Type 0
ShowsEntry text places entry others =
    StandsAt text places.key entry.0 (entry.1 ++ text_of others)
    × StandsAt text places.value entry.1 (text_of others)

-- `AreEntries text places entries`: `text` is the concatenation of `entries`, and `places` are
-- their spans in `text`, in the same order.
pub record AreEntries (text : List ℕ) (places : List PairEntry) (entries : List EntryText) : Type 0
  where
    pub whole : text ≡ text_of entries
    pub count : length places ≡ length entries
    pub each : (k : ℕ) (p : PairEntry) (e : EntryText) → k < length entries
        → ShowsEntry text (slice_index_or places k p) (slice_index_or entries k e)
        (drop (k + 1) entries)

-- No entries, and no bytes of theirs.
abbrev pub HasNoSizes : PairSizes → Type 0
HasNoSizes found = (found.entries ≡ 0) × (found.text ≡ 0)

-- The input is a document with these sections, which has that many entries and bytes of these.
pub record CountsDocument (input : List ℕ) (found : PairSizes) (sections : List SectionText)
    : Type 0 where
  pub has : HasSections input sections
  pub count : found.entries ≡ length (entries_of sections)
  pub bytes : found.text ≡ length (text_of (entries_of sections))

-- `ShowsDocument input found text places`: `input` is a document with the counts of `found`, and
-- its entries are at these spans of `text`.
abbrev pub ShowsDocument : List ℕ → PairSizes → List ℕ → List PairEntry → Type 0
ShowsDocument input found text places =
    (sections : List SectionText) × CountsDocument input found sections
    × AreEntries text places (entries_of sections)

-- `WantsDocument input found`: `input` is a document that needs the sizes in `found`.
abbrev pub WantsDocument : List ℕ → PairSizes → Type 0
WantsDocument input found = (sections : List SectionText) × CountsDocument input found sections
