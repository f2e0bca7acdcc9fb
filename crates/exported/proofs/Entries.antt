-- The entries of documents, and their bytes.
use Rattle.std.proofs.Common.{◌≡◌, ◌∙◌, ◌+◌, ◌<◌, ◌≤◌, ◌++◌, ◌∷◌, [], ℕ, List, ap, arith}
use Rattle.std.proofs.Common.{append_assoc, drop, inl, inr, length, length-append, map}
use Rattle.std.proofs.Common.{slice_index_or, slice_set, subst, sym, take}
use Rattle.std.specs.Borrow.{Bor}
use Rattle.std.proofs.lemmas.Bool.{cases_lt}
use Rattle.std.proofs.lemmas.List.{drop_more, flat_map_more, get_or-map, get_or-set_other}
use Rattle.std.proofs.lemmas.List.{get_or-set_same, length-map}
use Rattle.std.proofs.lemmas.List.{take-append-drop, take_more}
use Rattle.std.proofs.lemmas.List.Concat.{flat_map-append}
use Rattle.std.proofs.lemmas.Slice.{take-put_mid}
use borrow.Rule.Slice.PartMut.{put_mid}
use Rattle.readers.specs.Document.{BeginsWith, HasSections, Part, PairBytes, SectionText}
use Rattle.readers.specs.Document.{comment, pair, pairs_of, section, sections_of, white}
use Rattle.readers.specs.Sections.{pair_text}
use Rattle.exported.specs.Pairs.{EntryText, ShowsEntry, entries_of, text_of}
use Rattle.exported.specs.declared.pairs.PairEntry.{PairEntry}

-- A key and a value as they are found.
abbrev pub Found : Type 0
Found = Bor (List ℕ) × Bor (List ℕ)

-- what no entry is taken for
abbrev pub nothing : Found
nothing = (record { ref_ptr = (0, 0); now = [] }, record { ref_ptr = (0, 0); now = [] })

-- the entry of a number
abbrev pub of_number : List Found → ℕ → Found
of_number found i = slice_index_or found i nothing

-- ---- a document is at least as long as its entries

text_long : (a b : List EntryText)
    → length (text_of (a ++ b)) ≡ length (text_of a) + length (text_of b)
text_long a b =
    ap length (flat_map-append (λ e. e.0 ++ e.1) a b) ∙ length-append (text_of a) (text_of b)

pair_long : (p : PairBytes) (behind : List ℕ) (rest : List EntryText) (n : ℕ)
    → length (text_of rest) + n ≤ length behind
    → length (text_of ((p.key, p.value) ∷ rest)) + n
    ≤ length ((p.key ++ (p.before ++ (61 ∷ (p.lead ++ (p.value ++ (p.trail ++ p.remark))))))
    ++ behind)
pair_long p behind rest n less =
    let mark = p.lead ++ (p.value ++ (p.trail ++ p.remark)) in
    omega (
      arith,
      less,
      length-append (p.key ++ p.value) (text_of rest),
      length-append p.key p.value,
      length-append (p.key ++ (p.before ++ (61 ∷ mark))) behind,
      length-append p.key (p.before ++ (61 ∷ mark)),
      length-append p.before (61 ∷ mark),
      length-append p.lead (p.value ++ (p.trail ++ p.remark)),
      length-append p.value (p.trail ++ p.remark),
    )

-- the pairs before the next section, and all sections after them, are no longer than their bytes
parts_long : (parts : List Part) (input rest : List ℕ) → BeginsWith parts input rest
    → length (text_of (pairs_of parts)) + length (text_of (entries_of (sections_of parts)))
    ≤ length input
parts_long [] input rest e = omega (arith)
parts_long (white bytes ∷ parts) input rest (behind, (e, fits), more) =
    let less = parts_long parts behind rest more in
    omega (arith, less, ap length e, length-append bytes behind)
parts_long (comment text ∷ parts) input rest (behind, (e, fits), more) =
    let less = parts_long parts behind rest more in
    omega (arith, less, ap length e, length-append text behind)
parts_long (section name ∷ parts) input rest (behind, (e, fits), more) =
    let less = parts_long parts behind rest more in
    let entries = pairs_of parts ++ entries_of (sections_of parts) in
    omega (
      arith,
      less,
      ap length e,
      length-append (name ++ (93 ∷ [])) behind,
      length-append name (93 ∷ []),
      length-append name (text_of entries),
      text_long (pairs_of parts) (entries_of (sections_of parts)),
    )
parts_long (pair p ∷ parts) input rest (behind, (e, fits), more) =
    let less = parts_long parts behind rest more in
    omega (
      arith,
      pair_long p behind (pairs_of parts) (length (text_of (entries_of (sections_of parts)))) less,
      ap length e,
    )

pub document_long : (input : List ℕ) (sections : List SectionText) → HasSections input sections
    → length (text_of (entries_of sections)) ≤ length input
document_long input sections (parts, (begins, none), is) =
    omega (
      arith,
      parts_long parts input [] begins,
      ap (λ s. length (text_of (entries_of s))) is,
    )

-- ---- the bytes of one entry more

-- the texts of the entry of a number
entry_at : (found : List Found) (i : ℕ) (x : Found) (d : EntryText) → i < length found
    → x ≡ slice_index_or found i nothing → slice_index_or (map pair_text found) i d ≡ pair_text x
entry_at found i x d within is =
    get_or-map pair_text found i nothing d within ∙ ap pair_text (sym is)

pub within_map : (found : List Found) (i : ℕ) → i < length found
    → i < length (map pair_text found)
within_map found i within = omega (arith, within, length-map found pair_text)

text_splits : (found : List Found) (i : ℕ) (x : Found) → i < length found
    → x ≡ slice_index_or found i nothing
    → text_of (map pair_text found) ≡ text_of (take i (map pair_text found))
    ++ ((x.0.now ++ x.1.now) ++ text_of (drop (i + 1) (map pair_text found)))
text_splits found i x within is =
    let entries = map pair_text found in
    let d = pair_text x in
    ap text_of (sym (take-append-drop i entries))
    ∙ flat_map-append (λ e. e.0 ++ e.1) (take i entries) (drop i entries)
    ∙ ap (λ l. text_of (take i entries) ++ text_of l)
    (drop_more entries i d (within_map found i within))
    ∙ ap (λ (e : EntryText). text_of (take i entries) ++ ((e.0 ++ e.1)
    ++ text_of (drop (i + 1) entries))) (entry_at found i x d within is)

text_more : (found : List Found) (i : ℕ) (x : Found) → i < length found
    → x ≡ slice_index_or found i nothing
    → text_of (take (i + 1) (map pair_text found))
    ≡ text_of (take i (map pair_text found)) ++ (x.0.now ++ x.1.now)
text_more found i x within is =
    let entries = map pair_text found in
    let d = pair_text x in
    ap text_of (take_more entries i d (within_map found i within))
    ∙ sym (flat_map_more (λ e. e.0 ++ e.1) [] (take i entries) (slice_index_or entries i d))
    ∙ ap (λ (e : EntryText). text_of (take i entries) ++ (e.0 ++ e.1))
    (entry_at found i x d within is)

pub length_more : (found : List Found) (i : ℕ) (x : Found) → i < length found
    → x ≡ slice_index_or found i nothing
    → length (text_of (take (i + 1) (map pair_text found)))
    ≡ length (text_of (take i (map pair_text found))) + (length x.0.now + length x.1.now)
length_more found i x within is =
    omega (
      arith,
      ap length (text_more found i x within is),
      length-append (text_of (take i (map pair_text found))) (x.0.now ++ x.1.now),
      length-append x.0.now x.1.now,
    )

pub front_long : (found : List Found) (i : ℕ) (x : Found) → i < length found
    → x ≡ slice_index_or found i nothing
    → length (text_of (take i (map pair_text found))) + (length x.0.now + length x.1.now)
    ≤ length (text_of (map pair_text found))
front_long found i x within is =
    let behind = text_of (drop (i + 1) (map pair_text found)) in
    omega (
      arith,
      ap length (text_splits found i x within is),
      length-append (text_of (take i (map pair_text found))) ((x.0.now ++ x.1.now) ++ behind),
      length-append (x.0.now ++ x.1.now) behind,
      length-append x.0.now x.1.now,
    )

-- ---- the offsets of an entry

entry_stands : (found : List Found) (i : ℕ) (x : Found) (place : PairEntry) → i < length found
    → x ≡ slice_index_or found i nothing
    → place.key.offset ≡ length (text_of (take i (map pair_text found)))
    → place.key.length ≡ length x.0.now
    → place.value.offset ≡ place.key.offset + place.key.length
    → place.value.length ≡ length x.1.now
    → ShowsEntry (text_of (map pair_text found)) place (pair_text x)
    (drop (i + 1) (map pair_text found))
entry_stands found i x place within is begins long value_begins value_long =
    let front = text_of (take i (map pair_text found)) in
    let behind = text_of (drop (i + 1) (map pair_text found)) in
    let splits = text_splits found i x within is in
    let whole = splits ∙ ap (λ l. front ++ l) (append_assoc x.0.now x.1.now behind) in (
      record {
        before = front;
        splits = whole;
        begins = begins;
        ends = long;
      },
      record {
        before = front ++ x.0.now;
        splits = whole ∙ sym (append_assoc front x.0.now (x.1.now ++ behind));
        begins = omega (arith, value_begins, begins, long, length-append front x.0.now);
        ends = value_long;
      },
    )

-- one place more is written
pub shown_more : (found : List Found) (places : List PairEntry) (i : ℕ) (x : Found)
    (place : PairEntry)
    → i < length places → i < length found → x ≡ slice_index_or found i nothing
    → place.key.offset ≡ length (text_of (take i (map pair_text found)))
    → place.key.length ≡ length x.0.now
    → place.value.offset ≡ place.key.offset + place.key.length
    → place.value.length ≡ length x.1.now
    → ((k : ℕ) (p : PairEntry) (e : EntryText) → k < i
    → ShowsEntry (text_of (map pair_text found)) (slice_index_or places k p)
    (slice_index_or (map pair_text found) k e) (drop (k + 1) (map pair_text found)))
    → (k : ℕ) (p : PairEntry) (e : EntryText) → k < i + 1
    → ShowsEntry (text_of (map pair_text found)) (slice_index_or (slice_set places i place) k p)
    (slice_index_or (map pair_text found) k e) (drop (k + 1) (map pair_text found))
shown_more found places i x place room within is begins long value_begins value_long before k p e
    now =
    let entries = map pair_text found in
    let At : ℕ → PairEntry → EntryText → Type 0 = λ n a b.
    ShowsEntry (text_of entries) a b (drop (n + 1) entries) in
    elim (cases_lt k i) [
      | inl earlier ↦ subst (λ (a : PairEntry). At k a (slice_index_or entries k e))
          (sym (get_or-set_other places i k place p (λ same. omega (arith, same, earlier))))
          (before k p e earlier)
      | inr later ↦
          let same : k ≡ i = omega (arith, later, now) in
          let Q : ℕ → Type 0 = λ n. At n (slice_index_or (slice_set places i place) n p)
          (slice_index_or entries n e) in
          let stands = entry_stands found i x place within is begins long value_begins
          value_long in
          let at_entry : At i place (slice_index_or entries i e) =
          subst (λ (b : EntryText). At i place b) (sym (entry_at found i x e within is)) stands in
          let here : Q i = subst (λ (a : PairEntry). At i a (slice_index_or entries i e))
          (sym (get_or-set_same places i place p room)) at_entry in
          subst Q (sym same) here
    ]

-- ---- one entry more is copied

pub copied_more : (found : List Found) (text part : List ℕ) (i end n k : ℕ) (x : Found)
    → i < length found → end ≤ length text
    → take end text ≡ text_of (take i (map pair_text found)) → part ≡ x.0.now ++ x.1.now
    → x ≡ slice_index_or found i nothing → n ≡ length x.0.now + length x.1.now
    → take (end + n) (put_mid end k text part) ≡ text_of (take (i + 1) (map pair_text found))
copied_more found text part i end n k x within room copied is read long =
    take-put_mid end k text part (end + n)
    (omega (arith, ap length is, long, length-append x.0.now x.1.now)) room
    ∙ ap (λ l. l ++ part) copied
    ∙ ap (λ l. text_of (take i (map pair_text found)) ++ l) is
    ∙ sym (text_more found i x within read)
