-- A record, field by field: what is read, and that nothing else could be.
use Rattle.std.specs.Prelude.{◌≡◌, ◌⊎◌, ◌<◌, ◌+◌, ◌-◌, ℕ, List, [], ◌∷◌, ◌++◌, length, drop}
use Rattle.std.proofs.Common.{refl, sym, ap, subst, inl, inr, ◌∙◌, arith, append_assoc}
use Rattle.std.proofs.Common.{length-append}
use Rattle.std.proofs.lemmas.List.{append-nil}
use Rattle.format_csv_records.specs.Apart.{IsApart}
use Rattle.format_csv_records.specs.Dialects.{AreFields, IsFieldText, IsLineEnd, IsPlain, IsRecord}
use Rattle.format_csv_records.specs.Dialects.{RecordEnds, doubled}
use Rattle.format_csv_records.specs.Parts.{DelimitedFields, EndsNowhere, NoEndReason, NotFirst}
use Rattle.format_csv_records.specs.Parts.{StartsWithField, StartsWithOpenQuote}
use Rattle.format_csv_records.specs.Refused.{EndsAField, IsRefused, LacksForRecord, NoRecordWith}
use Rattle.format_csv_records.specs.declared.dialect.Dialect.{Dialect}
use Rattle.format_csv_records.specs.declared.dialect.LineEnds.{LineEnds}
use Rattle.format_csv_records.specs.declared.read.Reason.{Reason}
use Rattle.format_csv_records.specs.declared.read.Reason.TheVariants.{QuoteInField}
use Rattle.format_csv_records.specs.declared.read.Reason.TheVariants.{ByteBehindQuote}
use Rattle.format_csv_records.specs.declared.read.Reason.TheVariants.{OpenQuote, WrongLineEnd}
use Rattle.format_csv_records.proofs.Alone.{doubled_append_run, line_end_is_not_empty, ends_apart}
use Rattle.format_csv_records.proofs.Alone.{ends_stop, first_field_unique, lone_return, open_apart}
use Rattle.format_csv_records.proofs.Alone.{quoted_behind, tails_equal, text_first}
use Rattle.format_csv_records.proofs.Early.{line_end_of}

-- ---- the text of the first field

pub record FirstText (d : Dialect) (bytes field left : List ℕ) : Type 0 where
  pub text : List ℕ
  pub is_text : IsFieldText d field text
  pub split : bytes ≡ text ++ left
  pub again : (b : ℕ) (bs after : List ℕ) → left ≡ b ∷ bs
      → StartsWithField d (text ++ (b ∷ after)) field (b ∷ after)

front_not : (quote b : ℕ) (field xs ys : List ℕ) → NotFirst (λ c. c ≡ quote) (field ++ (b ∷ xs))
    → NotFirst (λ c. c ≡ quote) (field ++ (b ∷ ys))
front_not quote b [] xs ys not = not
front_not quote b (c ∷ field) xs ys not = not

pub first_text : (d : Dialect) (bytes field left : List ℕ) → StartsWithField d bytes field left
    → FirstText d bytes field left
first_text d bytes field left (inl (here, e, (f, not))) = record {
  text = d.quote ∷ (doubled d.quote field ++ d.quote ∷ []);
  is_text = inl refl;
  split = e ∙ ap (λ l. d.quote ∷ l) f ∙ sym (quoted_behind d.quote field left);
  again = λ b bs after is.
      let P : List ℕ → Type 0 = λ l. NotFirst (λ c. c ≡ d.quote) l in
      inl (
        doubled d.quote field ++ (d.quote ∷ (b ∷ after)),
        quoted_behind d.quote field (b ∷ after),
        (refl, subst P is not),
      );
}
first_text d bytes field left (inr (e, all, stop, not)) = record {
  text = field;
  is_text = inr (refl, all);
  split = e;
  again = λ b bs after is.
      let P : List ℕ → Type 0 = λ l. NotFirst (IsPlain d) l in
      let Q : List ℕ → Type 0 = λ l. NotFirst (λ c. c ≡ d.quote) l in
      inr (
        refl,
        all,
        subst P is stop,
        front_not d.quote b field bs after (subst Q (e ∙ ap (λ l. field ++ l) is) not),
      );
}

-- ---- fields after fields

fields_more : (d : Dialect) (field text here : List ℕ) (fields : List (List ℕ)) (rest : List ℕ)
    → IsFieldText d field text → AreFields d here fields rest
    → AreFields d (text ++ (d.delimiter ∷ here)) (field ∷ fields) rest
unfolding AreFields
fields_more d field text here [] rest t it = absurd it
fields_more d field text here (next ∷ fields) rest t it = (text, here, t, refl, it)

-- after fields with their delimiters
pub done_fields : (d : Dialect) (done : List (List ℕ)) (before here : List ℕ)
    (fields : List (List ℕ)) (rest : List ℕ) → DelimitedFields d done before
    → AreFields d here fields rest
    → AreFields d (before ++ here) (done ++ fields) rest
unfolding DelimitedFields
done_fields d [] before here fields rest e it = rw e it
done_fields d (field ∷ done) before here fields rest (text, more, t, e, others) it =
    rw (e, append_assoc text (d.delimiter ∷ more) here)
    (fields_more d field text (more ++ here) (done ++ fields) rest t
    (done_fields d done more here fields rest others it))

-- one field more
pub done_more : (d : Dialect) (done : List (List ℕ)) (before field text : List ℕ)
    → DelimitedFields d done before → IsFieldText d field text
    → DelimitedFields d (done ++ field ∷ []) (before ++ (text ++ (d.delimiter ∷ [])))
unfolding DelimitedFields
done_more d [] before field text e t =
    (text, [], t, ap (λ l. l ++ (text ++ (d.delimiter ∷ []))) e, refl)
done_more d (other ∷ done) before field text (front, more, u, e, others) t = (
  front,
  more ++ (text ++ (d.delimiter ∷ [])),
  u,
  ap (λ l. l ++ (text ++ (d.delimiter ∷ []))) e
      ∙ append_assoc front (d.delimiter ∷ more) (text ++ (d.delimiter ∷ [])),
  done_more d done more field text others t,
)

-- the last field
pub last_field : (d : Dialect) (field text behind rest : List ℕ) → IsFieldText d field text
    → RecordEnds d.ends behind rest → AreFields d (text ++ behind) (field ∷ []) rest
unfolding AreFields
last_field d field text behind rest t ends = (text, behind, t, refl, ends)

-- ---- uniqueness of records

-- a record by its first field and the bytes after it
pub record FieldsAfterFirst (d : Dialect) (bytes : List ℕ) (fields : List (List ℕ)) (rest : List ℕ)
    : Type 0 where
  pub field : List ℕ
  pub others : List (List ℕ)
  pub behind : List ℕ
  pub all : fields ≡ field ∷ others
  pub first : StartsWithField d bytes field behind
  pub way : ((others ≡ []) × RecordEnds d.ends behind rest) ⊎ ((more : List ℕ)
      × (behind ≡ d.delimiter ∷ more) × AreFields d more others rest)

pub behind_first : (d : Dialect) → IsApart d.delimiter d.quote → (bytes : List ℕ)
    (fields : List (List ℕ)) (rest : List ℕ) → AreFields d bytes fields rest
    → FieldsAfterFirst d bytes fields rest
unfolding AreFields
behind_first d apart bytes [] rest it = absurd it
behind_first d apart bytes (field ∷ []) rest (text, behind, t, e, ends) = record {
  field = field;
  others = [];
  behind = behind;
  all = refl;
  first = text_first d apart bytes field text behind t e (ends_stop d d.ends behind rest ends);
  way = inl (refl, ends);
}
behind_first d apart bytes (field ∷ (next ∷ fields)) rest (text, more, t, e, it) = record {
  field = field;
  others = next ∷ fields;
  behind = d.delimiter ∷ more;
  all = refl;
  first = text_first d apart bytes field text (d.delimiter ∷ more) t e (inl refl);
  way = inr (more, refl, it);
}

-- fields with their delimiters are followed by the other fields of the record
done_apart : (d : Dialect) → IsApart d.delimiter d.quote → (done : List (List ℕ))
    (before here : List ℕ) (fields : List (List ℕ)) (rest : List ℕ) → DelimitedFields d done before
    → AreFields d (before ++ here) fields rest
    → (others : List (List ℕ)) × AreFields d here others rest
unfolding DelimitedFields
done_apart d apart [] before here fields rest e it = (fields, rw e at it)
done_apart d apart (field ∷ done) before here fields rest (text, more, t, e, others) it =
    let b = behind_first d apart (before ++ here) fields rest it in
    let f = text_first d apart (before ++ here) field text (d.delimiter ∷ (more ++ here)) t
    (ap (λ l. l ++ here) e ∙ append_assoc text (d.delimiter ∷ more) here) (inl refl) in
    let (same, left) =
    first_field_unique d (before ++ here) field (d.delimiter ∷ (more ++ here)) b.field
    b.behind f b.first in
    elim b.way [
      | inl (none, ends) ↦
          absurd (ends_apart d apart b.behind rest (more ++ here) ends (sym left))
      | inr (further, is, them) ↦
          let P : List ℕ → Type 0 = λ l. AreFields d l b.others rest in
          done_apart d apart done more here b.others rest others
          (subst P (sym (tails_equal (left ∙ is))) them)
    ]

-- there is no record if its field is followed neither by a delimiter nor by a line ending
none_behind : (d : Dialect) → IsApart d.delimiter d.quote → (bytes field left : List ℕ)
    (fields : List (List ℕ)) (rest : List ℕ) → StartsWithField d bytes field left
    → NotFirst (λ b. b ≡ d.delimiter) left → (RecordEnds d.ends left rest → ⊥)
    → AreFields d bytes fields rest → ⊥
none_behind d apart bytes field left fields rest f not ends it =
    let b = behind_first d apart bytes fields rest it in
    let (same, e) = first_field_unique d bytes field left b.field b.behind f b.first in
    let P : List ℕ → Type 0 = λ l. NotFirst (λ c. c ≡ d.delimiter) l in
    elim b.way [
      | inl (none, at) ↦ ends (rw e at)
      | inr (further, is, them) ↦ subst P (e ∙ is) not refl
    ]

none_open : (d : Dialect) → IsApart d.delimiter d.quote → (bytes : List ℕ)
    (fields : List (List ℕ)) (rest : List ℕ) → StartsWithOpenQuote d bytes
    → AreFields d bytes fields rest
    → ⊥
none_open d apart bytes fields rest unclosed it =
    let b = behind_first d apart bytes fields rest it in
    open_apart d bytes b.field b.behind unclosed b.first

-- ---- why not

-- a byte at which the record does not end
pub record Stuck (ends : LineEnds) (left : List ℕ) (begun : ℕ) : Type 0 where
  pub b : ℕ
  pub bs : List ℕ
  pub is : left ≡ b ∷ bs
  pub ends_not : ((begun ≡ 0)
      × ((after : List ℕ) (rest : List ℕ) → RecordEnds ends (b ∷ after) rest → ⊥))
      ⊎ ((begun ≡ 1) × (b ≡ 13) × IsLineEnd ends (13 ∷ 10 ∷ []) × NotFirst (λ c. c ≡ 10) bs)

stuck : (ends : LineEnds) (left : List ℕ) (begun : ℕ) → EndsNowhere ends left begun
    → Stuck ends left begun
stuck ends [] begun it = absurd it
stuck ends (b ∷ bs) begun it = record { b = b; bs = bs; is = refl; ends_not = it }

lacks : (d : Dialect) (why : Reason) (before more left : List ℕ) → NoEndReason d.quote left why
    → NotFirst (λ b. b ≡ d.delimiter) left → EndsAField d before → IsLineEnd d.ends more
    → LacksForRecord d why before more left
lacks d QuoteInField before more left it not ends is = (is, it, ends)
lacks d WrongLineEnd before more left it not ends is = inl (is, it)
lacks d OpenQuote before more left it not ends is = absurd it
lacks d ByteBehindQuote before more [] it not ends is = absurd it
lacks d ByteBehindQuote before more (b ∷ left) (other, unbroken) not ends is =
    (is, (other, (not, (λ e. unbroken (inl e), λ e. unbroken (inr e)))), ends)

lacks_feed : (d : Dialect) → IsApart d.delimiter d.quote → (why : Reason)
    (before back left : List ℕ) → NoEndReason d.quote (13 ∷ left) why
    → LacksForRecord d why (before ++ (13 ∷ [])) (10 ∷ []) back
lacks_feed d apart QuoteInField before back left it = absurd (apart.quote_stays.0 (sym it))
lacks_feed d apart WrongLineEnd before back left it = inr (refl, (before, refl))
lacks_feed d apart OpenQuote before back left it = absurd it
lacks_feed d apart ByteBehindQuote before back left (other, unbroken) =
    absurd (unbroken (inl refl))

-- ---- a record that is read in part

pub record SoFar (d : Dialect) (bytes rest : List ℕ) (fields : List (List ℕ)) : Type 0 where
  pub before : List ℕ
  pub whole : bytes ≡ before ++ rest
  pub texts : DelimitedFields d fields before

pub so_far_none : (d : Dialect) (bytes : List ℕ) (fields : List (List ℕ)) → fields ≡ []
    → SoFar d bytes bytes fields
unfolding DelimitedFields
so_far_none d bytes fields e = record { before = []; whole = refl; texts = rw e refl }

module _ (d : Dialect) (apart : IsApart d.delimiter d.quote) (bytes rest : List ℕ)
    (fields : List (List ℕ)) (it : SoFar d bytes rest fields) where
  module _ (field left : List ℕ) (f : StartsWithField d rest field left) where
    -- a delimiter after the field
    pub so_far_more : (next : List ℕ) (new : List (List ℕ)) → new ≡ fields ++ field ∷ []
        → left ≡ d.delimiter ∷ drop 1 left → next ≡ drop 1 left → SoFar d bytes next new
    so_far_more next new e goes is =
        let t = first_text d rest field left f in
        record {
          before = it.before ++ (t.text ++ (d.delimiter ∷ []));
          whole = it.whole ∙ ap (λ l. it.before ++ l) (t.split ∙ ap (λ l. t.text ++ l) (goes
              ∙ ap (λ l. d.delimiter ∷ l) (sym is))
              ∙ sym (append_assoc t.text (d.delimiter ∷ []) next))
              ∙ sym (append_assoc it.before (t.text ++ (d.delimiter ∷ [])) next);
          texts = rw e (done_more d fields it.before field t.text it.texts t.is_text);
        }

    -- with what ends it after the field
    ended : (behind end : List ℕ) → RecordEnds d.ends behind end
        → AreFields d (it.before ++ ((first_text d rest field left f).text ++ behind))
        (fields ++ field ∷ []) end
    ended behind end ends =
        let t = first_text d rest field left f in
        done_fields d fields it.before (t.text ++ behind) (field ∷ []) end it.texts
        (last_field d field t.text behind end t.is_text ends)

    -- the end after the field
    pub so_far_ends : (end : List ℕ) (new : List (List ℕ)) → new ≡ fields ++ field ∷ []
        → RecordEnds d.ends left end → AreFields d bytes new end
    so_far_ends end new e ends =
        let t = first_text d rest field left f in
        rw (e, it.whole ∙ ap (λ l. it.before ++ l) t.split) (ended left end ends)

    -- a record with `more` after its last field
    closes : (before more : List ℕ) → before ≡ it.before ++ (first_text d rest field left f).text
        → RecordEnds d.ends more [] → 0 < length more
        → IsRecord d (before ++ more) (fields ++ field ∷ []) []
    closes before more e ends some =
        let t = first_text d rest field left f in (
          omega (arith, length-append before more),
          rw (e, append_assoc it.before t.text more) (ended more [] ends),
        )

    -- this holds for each line ending
    ends_a_field : EndsAField d (it.before ++ (first_text d rest field left f).text)
    ends_a_field end is = (
      fields ++ field ∷ [],
      closes (it.before ++ (first_text d rest field left f).text) end refl
          (inl (end, is, sym (append-nil end))) (line_end_is_not_empty d.ends end is),
    )

    -- no record continues with this byte
    goes_not : (b : ℕ) (bs after : List ℕ) → left ≡ b ∷ bs → (b ≡ d.delimiter → ⊥)
        → ((end : List ℕ) → RecordEnds d.ends (b ∷ after) end → ⊥) → (before : List ℕ)
        → before ≡ it.before ++ (first_text d rest field left f).text
        → (all : List (List ℕ)) (end : List ℕ) → IsRecord d (before ++ (b ∷ after)) all end → ⊥
    goes_not b bs after is not ends before e all end (some, them) =
        let t = first_text d rest field left f in
        let (fs, o) = done_apart d apart fields it.before (t.text ++ (b ∷ after)) all end it.texts
        (rw (e, append_assoc it.before t.text (b ∷ after)) at them) in
        none_behind d apart (t.text ++ (b ∷ after)) field (b ∷ after) fs end
        (t.again b bs after is) not (ends end) o

    -- no record continues after a carriage return without a line feed
    none_return : (bs : List ℕ) → left ≡ 13 ∷ bs → NotFirst (λ c. c ≡ 10) bs → (before : List ℕ)
        → before ≡ it.before ++ (first_text d rest field left f).text
        → NoRecordWith d (before ++ (13 ∷ [])) bs
    none_return [] is not before e =
        λ all end them. goes_not 13 [] [] is (λ g. apart.delimiter_stays.0 (sym g))
        (λ o. lone_return d.ends [] o tt) before e all end them
    none_return (c ∷ bs) is not before e =
        λ after all end them. goes_not 13 (c ∷ bs) (c ∷ after) is
        (λ g. apart.delimiter_stays.0 (sym g)) (λ o. lone_return d.ends (c ∷ after) o not) before e
        all end (rw (append_assoc before (13 ∷ []) (c ∷ after)) at them)

    pub so_far_bad : (begun offset : ℕ) (why : Reason) → NotFirst (λ b. b ≡ d.delimiter) left
        → EndsNowhere d.ends left begun → NoEndReason d.quote left why
        → offset ≡ (length bytes - length left) + begun
        → IsRefused d bytes (record { offset = offset; why = why })
    so_far_bad begun offset why not nowhere whynot at =
        let t = first_text d rest field left f in
        let before = it.before ++ t.text in
        let split : bytes ≡ before ++ left = it.whole ∙ ap (λ l. it.before ++ l) t.split
        ∙ sym (append_assoc it.before t.text left) in
        let sizes : length bytes ≡ length before + length left =
        ap (λ l. length l) split ∙ length-append before left in
        let s = stuck d.ends left begun nowhere in
        elim s.ends_not [
          | inl (none, ends) ↦
              let z = line_end_of d.ends in
              let B : List ℕ → Type 0 = λ l. NoRecordWith d before l in (
                before,
                left,
                z.end,
                fields ++ field ∷ [],
                split,
                omega (arith, at, none, sizes),
                closes before z.end refl (inl (z.end, z.is, sym (append-nil z.end))) z.some,
                lacks d why before z.end left whynot not ends_a_field z.is,
                subst B (sym s.is) (λ after all o them. goes_not s.b s.bs after s.is
                    (rw s.is at not) (λ l. ends after l) before refl all o them),
              )
          | inr (one, cr, is, lone) ↦
              let here : left ≡ 13 ∷ s.bs = s.is ∙ ap (λ b. b ∷ s.bs) cr in (
                before ++ (13 ∷ []),
                s.bs,
                10 ∷ [],
                fields ++ field ∷ [],
                split ∙ ap (λ l. before ++ l) here ∙ sym (append_assoc before (13 ∷ []) s.bs),
                omega (arith, at, one, sizes, length-append before (13 ∷ [])),
                rw (append_assoc before (13 ∷ []) (10 ∷ []))
                    (closes before (13 ∷ 10 ∷ []) refl (inl (13 ∷ 10 ∷ [], is, refl))
                    (omega arith)),
                lacks_feed d apart why before s.bs s.bs (rw here at whynot),
                none_return s.bs here lone before refl,
              )
        ]

  pub so_far_open : StartsWithOpenQuote d rest
      → IsRefused d bytes (record { offset = length bytes; why = OpenQuote })
  so_far_open (here, e, (done, run, g, all)) =
      let q = d.quote in
      let text = q ∷ (doubled q (done ++ run) ++ q ∷ []) in
      let same : rest ++ q ∷ [] ≡ text =
      ap (λ l. l ++ q ∷ []) (e ∙ ap (λ l. q ∷ l) (g ∙ sym (doubled_append_run q done run all))) in
      let whole : bytes ++ q ∷ [] ≡ it.before ++ (text ++ []) =
      ap (λ l. l ++ q ∷ []) it.whole ∙ append_assoc it.before rest (q ∷ [])
      ∙ ap (λ l. it.before ++ l) (same ∙ sym (append-nil text)) in (
        bytes,
        [],
        q ∷ [],
        fields ++ (done ++ run) ∷ [],
        sym (append-nil bytes),
        refl,
        (
          omega (arith, length-append bytes (q ∷ [])),
          rw whole (done_fields d fields it.before (text ++ []) ((done ++ run) ∷ []) []
              it.texts (last_field d (done ++ run) text [] [] (inl refl) (inr (refl, refl)))),
        ),
        (refl, refl),
        λ ps end (some, them).
            let (fs, o) = done_apart d apart fields it.before rest ps end it.texts
            (rw it.whole at them) in
            none_open d apart rest fs end (here, e, (done, run, g, all)) o,
      )
