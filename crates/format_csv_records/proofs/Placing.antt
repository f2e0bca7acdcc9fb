-- How the bytes of fields, and their places, come into two buffers.
use Rattle.std.specs.Prelude.{◌≡◌, ◌≤◌, ◌<◌, ◌+◌, ◌-◌, ℕ, List, [], ◌∷◌, ◌++◌, drop, length}
use Rattle.std.specs.Prelude.{take, Bool, MatchBool}
use Rattle.std.proofs.Common.{refl, sym, ap, inl, inr, ◌∙◌, arith, append_assoc}
use Rattle.std.proofs.Common.{length-append, slice_set}
use Rattle.std.proofs.lemmas.List.{append-nil, drop-drop, drop-set-lt, drop_at}
use Rattle.std.proofs.lemmas.List.{flat_map_more, length-drop, length-take-le}
use Rattle.std.specs.List.{All}
use Rattle.format_csv_records.specs.Apart.{IsApart}
use Rattle.format_csv_records.specs.Buffers.{FieldPut, IsSized, PutsBytes, PutsFields, PutsPlace}
use Rattle.format_csv_records.specs.Buffers.{ShowsFields, places_of, text_of}
use Rattle.format_csv_records.specs.Dialects.{RecordEnds}
use Rattle.format_csv_records.specs.Parts.{ClosedQuotes, IsNotQuote, LongestPrefixLength, NotFirst}
use Rattle.format_csv_records.specs.Parts.{StartsWithField}
use Rattle.format_csv_records.specs.declared.buffers.RecordSize.{RecordSize}
use Rattle.format_csv_records.specs.declared.dialect.Dialect.{Dialect}
use Rattle.format_csv_records.specs.declared.dialect.LineEnds.{LineEnds}
use Rattle.format_csv_records.proofs.One.{ended_so, fields_unique}
use Rattle.format_csv_records.proofs.Alone.{Between, closed_here, more_here, run_quote, take_quote}
use Rattle.format_csv_records.proofs.Whole.{SoFar, first_text, so_far_ends, so_far_more}
use Rattle.format_csv_records.proofs.Whole.{so_far_none}

-- ---- the rest of a buffer

-- what is unchanged from one offset on is unchanged from a later one on
pub later_same : {A : Type 0} (end last more : ℕ) (now old : List A) → last ≡ end + more
    → drop end now ≡ drop end old → drop last now ≡ drop last old
later_same end last more now old sum e =
    ap (λ n. drop n now) sum ∙ sym (drop-drop more end now) ∙ ap (λ l. drop more l) e
    ∙ drop-drop more end old ∙ ap (λ n. drop n old) (sym sum)

-- a store before an offset does not change what follows it
pub stored_before : {A : Type 0} (at : ℕ) (now old : List A) (x : A)
    → drop at now ≡ drop at old → drop (at + 1) (slice_set now at x) ≡ drop (at + 1) old
stored_before at now old x e =
    drop-set-lt (at + 1) now at x (omega arith) ∙ later_same at (at + 1) 1 now old refl e

-- a byte of a run more is stored
pub run_stored : (at n : ℕ) (now old : List ℕ) (x : ℕ) → drop (at + n) now ≡ drop (at + n) old
    → drop (at + (n + 1)) (slice_set now (at + n) x) ≡ drop (at + (n + 1)) old
run_stored at n now old x e =
    let one : at + (n + 1) ≡ (at + n) + 1 = omega arith in
    ap (λ k. drop k (slice_set now (at + n) x)) one ∙ stored_before (at + n) now old x e
    ∙ ap (λ k. drop k old) (sym one)

-- ---- bytes after bytes

pub puts_none : (at : ℕ) (text : List ℕ) → PutsBytes [] at text text at
puts_none at text = record {
  is_end = omega arith;
  same = refl;
  there = λ _. sym (append-nil (take at text));
  behind = refl;
}

pub puts_more : (xs ys : List ℕ) (at end last : ℕ) (old now new : List ℕ)
    → PutsBytes xs at old now end
    → PutsBytes ys end now new last → PutsBytes (xs ++ ys) at old new last
puts_more xs ys at end last old now new it more = record {
  is_end = omega (arith, it.is_end, more.is_end, length-append xs ys);
  same = more.same ∙ it.same;
  there = λ room.
      more.there (omega (arith, room, it.same))
      ∙ ap (λ l. l ++ ys) (it.there (omega (arith, room, more.is_end)))
      ∙ append_assoc (take at old) xs ys;
  behind = more.behind ∙ later_same end last (length ys) now old more.is_end it.behind;
}

-- ---- a field in quotes

-- what is put of it
pub record QuotedSoFar (quote : ℕ) (bytes rest : List ℕ) (at : ℕ) (old new : List ℕ) (end : ℕ)
    : Type 0 where
  pub begun : List ℕ
  pub read : Between quote bytes rest [] begun
  pub puts : PutsBytes begun at old new end
  pub less : end + length rest ≤ at + length bytes

module _ (quote : ℕ) (bytes rest : List ℕ) (at : ℕ) (old now : List ℕ) (end n : ℕ)
    (it : QuotedSoFar quote bytes rest at old now end)
    (run : LongestPrefixLength (IsNotQuote quote) rest n) where
  -- the quote after it is put too
  pub quote_behind : (n ≡ length rest → ⊥) → (mid new : List ℕ)
      → PutsBytes (take n rest) end now mid (end + n)
      → PutsBytes (quote ∷ []) (end + n) mid new (end + n + 1)
      → PutsBytes (take (n + 1) rest) end now new (end + n + 1)
  quote_behind some mid new puts more =
      rw (take_quote quote rest n run some)
      (puts_more (take n rest) (quote ∷ []) end (end + n) (end + n + 1) now mid new puts more)

  pub quoted_more : (n ≡ length rest → ⊥) → (left next added new : List ℕ) (last : ℕ)
      → left ≡ drop (n + 1) rest → left ≡ quote ∷ drop 1 left → next ≡ drop 1 left
      → added ≡ take (n + 1) rest → PutsBytes added end now new last
      → QuotedSoFar quote bytes next at old new last
  quoted_more some left next added new last is two goes adds puts = record {
    begun = it.begun ++ added;
    read = more_here quote bytes rest [] it.begun n it.read run some left next added
        (it.begun ++ added) is two goes adds refl;
    puts = puts_more it.begun added at end last old now new it.puts puts;
    less = omega (
      arith,
      it.less,
      puts.is_end,
      ap (λ l. length l) adds,
      length-take-le (n + 1) rest (run_quote quote rest n run some).1,
      (run_quote quote rest n run some).1,
      ap (λ l. length l) is,
      length-drop (n + 1) rest,
      ap (λ l. length l) goes,
      length-drop 1 left,
    );
  }

  pub quoted_closed : (n ≡ length rest → ⊥) → (left added new : List ℕ) (last : ℕ)
      → left ≡ drop (n + 1) rest → NotFirst (λ b. b ≡ quote) left → added ≡ take n rest
      → PutsBytes added end now new last
      → (field : List ℕ) × ClosedQuotes quote bytes field left
      × FieldPut field bytes left at old new last
  quoted_closed some left added new last is not adds puts =
      let (field, closed, e) = closed_here quote bytes rest [] it.begun n it.read run some left
      added (it.begun ++ added) is not adds refl in
      let within = (run_quote quote rest n run some).1 in (
        field,
        closed,
        (
          rw (← e) (puts_more it.begun added at end last old now new it.puts puts),
          omega (
            arith,
            it.less,
            puts.is_end,
            ap (λ l. length l) adds,
            length-take-le n rest (omega (arith, within)),
            within,
            ap (λ l. length l) is,
            length-drop (n + 1) rest,
          ),
        ),
      )

-- ---- fields after fields

pub text_more : (fields : List (List ℕ)) (field : List ℕ)
    → text_of (fields ++ field ∷ []) ≡ text_of fields ++ field
text_more fields field = sym (flat_map_more (λ f. f) [] fields field)

places_more : {P : Type 0} (made : ℕ → ℕ → P) (offset : ℕ) (fields : List (List ℕ))
    (field : List ℕ) → places_of made offset (fields ++ field ∷ [])
    ≡ places_of made offset fields
    ++ made (offset + length (text_of fields)) (length field) ∷ []
unfolding places_of
places_more made offset [] field =
    let e : offset ≡ offset + 0 = omega arith in
    ap (λ o. made o (length field) ∷ []) e
places_more made offset (f ∷ fields) field =
    let e : (offset + length f) + length (text_of fields) ≡ offset + length (f ++ text_of fields) =
    omega (arith, length-append f (text_of fields)) in
    ap (λ l. made offset (length f) ∷ l) (places_more made (offset + length f) fields field
    ∙ ap (λ o. places_of made (offset + length f) fields ++ made o (length field) ∷ []) e)

-- the bytes of these fields and their offsets that were stored, and the numbers of both
pub record Put {P : Type 0} (made : ℕ → ℕ → P) (fields : List (List ℕ)) (old new : List ℕ)
    (before after : List P) (end count : ℕ) : Type 0 where
  pub total : end ≡ length (text_of fields)
  pub number : count ≡ length fields
  pub same : (length new ≡ length old) × (length after ≡ length before)
  pub text : end ≤ length old → take end new ≡ text_of fields
  pub places : count ≤ length before → take count after ≡ places_of made 0 fields
  pub text_behind : drop end new ≡ drop end old
  pub places_behind : drop count after ≡ drop count before

pub record FieldsSoFar {P : Type 0} (made : ℕ → ℕ → P) (d : Dialect) (bytes rest old new : List ℕ)
    (before after : List P) (end count : ℕ) : Type 0 where
  pub fields : List (List ℕ)
  pub read : SoFar d bytes rest fields
  pub put : Put made fields old new before after end count
  pub less : end + length rest ≤ length bytes
  pub few : count + length rest ≤ length bytes

pub nothing_put : {P : Type 0} (made : ℕ → ℕ → P) (d : Dialect) (bytes text : List ℕ)
    (places : List P) → FieldsSoFar made d bytes bytes text text places places 0 0
unfolding places_of
nothing_put made d bytes text places = record {
  fields = [];
  read = so_far_none d bytes [] refl;
  put = record {
    total = refl;
    number = refl;
    same = (refl, refl);
    text = λ _. refl;
    places = λ _. refl;
    text_behind = refl;
    places_behind = refl;
  };
  less = omega arith;
  few = omega arith;
}

put_next_field : {P : Type 0} (made : ℕ → ℕ → P) (fields : List (List ℕ)) (old now new : List ℕ)
    (before between after : List P) (end count last : ℕ)
    → Put made fields old now before between end count → (field : List ℕ)
    → PutsBytes field end now new last → PutsPlace (made end (last - end)) count between after
    → Put made (fields ++ field ∷ []) old new before after last (count + 1)
unfolding places_of
put_next_field made fields old now new before between after end count last it field puts
    placed = record {
      total = omega (
        arith,
        it.total,
        puts.is_end,
        ap (λ l. length l) (text_more fields field),
        length-append (text_of fields) field,
      );
      number = omega (arith, it.number, length-append fields (field ∷ []));
      same = (puts.same ∙ it.same.0, placed.same ∙ it.same.1);
      text = λ room.
          puts.there (omega (arith, room, it.same.0))
          ∙ ap (λ l. l ++ field) (it.text (omega (arith, room, puts.is_end)))
          ∙ sym (text_more fields field);
      places = λ room.
          let size : last - end ≡ length field = omega (arith, puts.is_end) in
          let from : end ≡ 0 + length (text_of fields) = omega (arith, it.total) in
          placed.there (omega (arith, room, it.same.1))
          ∙ ap (λ l. l ++ made end (last - end) ∷ []) (it.places (omega (arith, room)))
          ∙ ap (λ n. places_of made 0 fields ++ made end n ∷ []) size
          ∙ ap (λ o. places_of made 0 fields ++ made o (length field) ∷ []) from
          ∙ sym (places_more made 0 fields field);
      text_behind =
          puts.behind ∙ later_same end last (length field) now old puts.is_end it.text_behind;
      places_behind =
          placed.behind ∙ later_same count (count + 1) 1 between before refl it.places_behind;
    }

ends_with : (ends : LineEnds) (bytes rest : List ℕ) → RecordEnds ends bytes rest
    → (front : List ℕ) × (bytes ≡ front ++ rest)
ends_with ends bytes rest (inl (end, is, e)) = (end, e)
ends_with ends bytes rest (inr (none, over)) = ([], none ∙ sym over)

module _ {P : Type 0} (made : ℕ → ℕ → P) (d : Dialect) (apart : IsApart d.delimiter d.quote)
    (bytes rest old now : List ℕ) (before between : List P) (end count : ℕ)
    (it : FieldsSoFar made d bytes rest old now before between end count) (field left : List ℕ)
    (first : StartsWithField d rest field left) (new : List ℕ) (last : ℕ)
    (puts : FieldPut field rest left end now new last) (after : List P) (x : P)
    (made_so : x ≡ made end (last - end)) (placed : PutsPlace x count between after) where
  put_here : Put made (it.fields ++ field ∷ []) old new before after last (count + 1)
  put_here =
      put_next_field made it.fields old now new before between after end count last it.put field
      puts.0
      (rw made_so at placed)

  pub fields_more : (next : List ℕ) → left ≡ d.delimiter ∷ drop 1 left → next ≡ drop 1 left
      → FieldsSoFar made d bytes next old new before after last (count + 1)
  fields_more next goes is =
      let size : length left ≡ length (drop 1 left) + 1 =
      omega (arith, ap (λ l. length l) goes) in
      record {
        fields = it.fields ++ field ∷ [];
        read = so_far_more d apart bytes rest it.fields it.read field left first next
            (it.fields ++ field ∷ []) refl goes is;
        put = put_here;
        less = omega (arith, it.less, puts.1, size, ap (λ l. length l) is);
        few = omega (arith, it.few, puts.1, puts.0.is_end, size, ap (λ l. length l) is);
      }

  pub fields_end : (over : List ℕ) (is : Bool) → RecordEnds d.ends left over
      → MatchBool is (0 < length left) (left ≡ []) → (n : ℕ) → n ≡ length bytes - length over
      → PutsFields made d bytes old new before after
      (record { fields = count + 1; text = last; length = n; ended = is })
  fields_end over is ends some n size =
      let t = first_text d rest field left first in
      let fields = it.fields ++ field ∷ [] in
      let (close, e) = ends_with d.ends left over ends in
      let front = it.read.before ++ (t.text ++ close) in
      let split : bytes ≡ front ++ over =
      it.read.whole ∙ ap (λ l. it.read.before ++ l) (t.split ∙ ap (λ l. t.text ++ l) e
      ∙ sym (append_assoc t.text close over))
      ∙ sym (append_assoc it.read.before (t.text ++ close) over) in
      let sizes : length bytes ≡ length front + length over =
      ap (λ l. length l) split ∙ length-append front over in
      let dropped : drop n bytes ≡ over =
      ap (λ l. drop n l) split ∙ drop_at front over n (omega (arith, size, sizes)) in
      let put = put_here in
      record {
        fields = fields;
        are = rw dropped (so_far_ends d apart bytes rest it.fields it.read field left
            first over fields refl ends);
        within = omega (arith, size);
        count = put.number;
        total = put.total;
        ended = rw dropped (ended_so d apart bytes rest it.fields it.read field left
            first is over some ends);
        same = put.same;
        text = put.text;
        places = put.places;
        text_behind = put.text_behind;
        places_behind = put.places_behind;
      }

-- ---- a record that was sized

module _ {P : Type 0} (made : ℕ → ℕ → P) (d : Dialect) (apart : IsApart d.delimiter d.quote)
    (bytes old new : List ℕ) (before after : List P) (size found : RecordSize)
    (sized : IsSized d bytes size) (put : PutsFields made d bytes old new before after found) where
  same_fields : sized.0 ≡ put.fields
  same_fields =
      let (same, over) = fields_unique d apart sized.0 put.fields bytes (drop size.length bytes)
      (drop found.length bytes) sized.1.is_record.1 put.are in same

  same_text : found.text ≡ size.text
  same_text = put.total ∙ ap (λ l. length (text_of l)) (sym same_fields) ∙ sym sized.1.total

  same_count : found.fields ≡ size.fields
  same_count = put.count ∙ ap (λ l. length l) (sym same_fields) ∙ sym sized.1.count

  pub shows : size.text ≤ length old → size.fields ≤ length before
      → ShowsFields made d bytes size (take size.text new) (take size.fields after)
  shows room many = (
    sized.0,
    sized.1,
    ap (λ n. take n new) (sym same_text) ∙ put.text (omega (arith, same_text, room))
        ∙ ap (λ l. text_of l) (sym same_fields),
    ap (λ n. take n after) (sym same_count) ∙ put.places (omega (arith, same_count, many))
        ∙ ap (λ l. places_of made 0 l) (sym same_fields),
  )

  pub behind : (drop size.text new ≡ drop size.text old)
      × (drop size.fields after ≡ drop size.fields before)
  behind = (rw same_text at put.text_behind, rw same_count at put.places_behind)

-- ---- bytes of one kind, as far as there is room

pub record RunSoFar (these : ℕ → Type 0) (bytes : List ℕ) (at : ℕ) (old new : List ℕ) (n : ℕ)
    : Type 0 where
  pub all : All these (take n bytes)
  pub same : length new ≡ length old
  pub there : at + n ≤ length old → take (at + n) new ≡ take at old ++ take n bytes
