-- Bytes start with at most one record, and with none if there is an error; and which records are
-- those of all longer bytes too.
use Rattle.std.specs.Prelude.{◌≡◌, ◌<◌, ◌≤◌, ℕ, List, [], ◌∷◌, ◌++◌, length, Bool, true, false}
use Rattle.std.specs.Prelude.{MatchBool}
use Rattle.std.proofs.Common.{refl, sym, ap, inl, inr, ◌∙◌, arith, append_assoc, length-append}
use Rattle.std.proofs.lemmas.List.{append-nil}
use Rattle.std.proofs.lemmas.List.Elements.{All-nil}
use Rattle.format_csv_records.specs.Apart.{IsApart}
use Rattle.format_csv_records.specs.Buffers.{IsRecordForGood, NoRecordForGood}
use Rattle.format_csv_records.specs.Dialects.{AreFields, IsPlain, IsRecord, RecordEnds}
use Rattle.format_csv_records.specs.Parts.{StartsWithField}
use Rattle.format_csv_records.specs.Refused.{IsRefused, NoRecordWith}
use Rattle.format_csv_records.specs.declared.dialect.Dialect.{Dialect}
use Rattle.format_csv_records.specs.declared.read.InvalidRecord.{InvalidRecord}
use Rattle.format_csv_records.proofs.Alone.{line_end_is_not_empty, ends_apart, line_end_is_unique}
use Rattle.format_csv_records.proofs.Alone.{first_field_unique, heads_equal, tails_equal}
use Rattle.format_csv_records.proofs.Whole.{SoFar, behind_first, done_fields, done_more, first_text}
use Rattle.format_csv_records.proofs.Whole.{last_field}

pub fields_unique : (d : Dialect) → IsApart d.delimiter d.quote → (fields others : List (List ℕ))
    (bytes rest left : List ℕ) → AreFields d bytes fields rest → AreFields d bytes others left
    → (fields ≡ others) × (rest ≡ left)
unfolding AreFields
fields_unique d apart [] others bytes rest left it other = absurd it
fields_unique d apart (f ∷ fs) others bytes rest left it other =
    let a = behind_first d apart bytes (f ∷ fs) rest it in
    let b = behind_first d apart bytes others left other in
    let (same, e) = first_field_unique d bytes a.field a.behind b.field b.behind a.first b.first in
    elim a.way [
      | inl (none, ends) ↦ elim b.way [
        | inl (nothing, close) ↦ (
          a.all ∙ ap (λ l. a.field ∷ l) (none ∙ sym nothing) ∙ ap (λ x. x ∷ b.others) same
              ∙ sym b.all,
          line_end_is_unique d.ends b.behind rest left (rw e at ends) close,
        )
        | inr (more, is, them) ↦ absurd (ends_apart d apart a.behind rest more ends (e ∙ is))
      ]
      | inr (more, is, them) ↦ elim b.way [
        | inl (nothing, close) ↦
            absurd (ends_apart d apart b.behind left more close (sym e ∙ is))
        | inr (further, too, those) ↦
            let (all, over) = fields_unique d apart fs b.others more rest left
            (rw (tails_equal a.all) them) (rw (tails_equal (sym is ∙ e ∙ too)) those) in
            let one = ap (λ x. x ∷ b.others) (heads_equal a.all ∙ same) in
            (ap (λ l. f ∷ l) all ∙ one ∙ sym b.all, over)
      ]
    ]

none_with : (d : Dialect) (bytes before back : List ℕ) (fields : List (List ℕ)) (rest : List ℕ)
    → NoRecordWith d before back → bytes ≡ before ++ back → IsRecord d bytes fields rest → ⊥
none_with d bytes before [] fields rest none e it =
    none fields rest (rw (e ∙ append-nil before) at it)
none_with d bytes before (b ∷ bs) fields rest none e it = none bs fields rest (rw e at it)

pub refused_is_no_record : (d : Dialect) (bytes : List ℕ) (fault : InvalidRecord)
    (fields : List (List ℕ))
    (rest : List ℕ) → IsRefused d bytes fault → IsRecord d bytes fields rest → ⊥
refused_is_no_record d bytes fault fields rest
    (before, back, more, others, e, size, on, lacks, none) it =
    none_with d bytes before back fields rest none e it

-- ---- what is left after a record is the end of the bytes

pub record Splits (bytes rest : List ℕ) : Type 0 where
  pub front : List ℕ
  pub is : bytes ≡ front ++ rest

pub rest_of_fields_is_suffix : (d : Dialect) (fields : List (List ℕ)) (bytes rest : List ℕ)
    → AreFields d bytes fields rest → Splits bytes rest
unfolding AreFields
rest_of_fields_is_suffix d [] bytes rest it = absurd it
rest_of_fields_is_suffix d (field ∷ []) bytes rest (text, behind, is, e, inl (end, line, f)) =
    record {
      front = text ++ end;
      is = e ∙ ap (λ l. text ++ l) f ∙ sym (append_assoc text end rest);
    }
rest_of_fields_is_suffix d (field ∷ []) bytes rest (text, behind, is, e, inr (none, over)) =
    record {
      front = bytes;
      is = sym (append-nil bytes) ∙ ap (λ l. bytes ++ l) (sym over);
    }
rest_of_fields_is_suffix d (field ∷ (next ∷ fields)) bytes rest (text, behind, is, e, are) =
    let others = rest_of_fields_is_suffix d (next ∷ fields) behind rest are in
    record {
      front = text ++ (d.delimiter ∷ others.front);
      is = e ∙ ap (λ l. text ++ (d.delimiter ∷ l)) others.is
          ∙ sym (append_assoc text (d.delimiter ∷ others.front) rest);
    }

pub rest_less : (bytes rest : List ℕ) → Splits bytes rest → length rest ≤ length bytes
rest_less bytes rest it =
    omega (arith, ap (λ l. length l) it.is, length-append it.front rest)

pub fields_less : (d : Dialect) (fields : List (List ℕ)) (bytes rest : List ℕ)
    → AreFields d bytes fields rest → 0 < length bytes → length rest < length bytes
unfolding AreFields
fields_less d [] bytes rest it some = absurd it
fields_less d (field ∷ []) bytes rest (text, behind, is, e, inl (end, line, f)) some = omega (
  arith,
  line_end_is_not_empty d.ends end line,
  ap (λ l. length l) (e ∙ ap (λ l. text ++ l) f),
  length-append text (end ++ rest),
  length-append end rest,
)
fields_less d (field ∷ []) bytes rest (text, behind, is, e, inr (none, over)) some =
    omega (arith, ap (λ l. length l) over)
fields_less d (field ∷ (next ∷ fields)) bytes rest (text, behind, is, e, are) some = omega (
  arith,
  rest_less behind rest (rest_of_fields_is_suffix d (next ∷ fields) behind rest are),
  ap (λ l. length l) e,
  length-append text (d.delimiter ∷ behind),
)

-- ---- which records are those of all longer bytes too

module _ (d : Dialect) (apart : IsApart d.delimiter d.quote) (bytes rest : List ℕ)
    (fields : List (List ℕ)) (it : SoFar d bytes rest fields) (field left : List ℕ)
    (f : StartsWithField d rest field left) where
  -- the bytes, with others after them
  split : (more : List ℕ)
      → bytes ++ more ≡ it.before ++ ((first_text d rest field left f).text ++ (left ++ more))
  split more =
      let t = first_text d rest field left f in
      ap (λ l. l ++ more) (it.whole ∙ ap (λ l. it.before ++ l) t.split)
      ∙ append_assoc it.before (t.text ++ left) more
      ∙ ap (λ l. it.before ++ l) (append_assoc t.text left more)

  -- a line ending follows the last field
  for_good : (end : List ℕ) → RecordEnds d.ends left end → 0 < length left
      → IsRecordForGood d bytes (fields ++ field ∷ []) end
  for_good end (inr (none, over)) some = absurd (omega (arith, some, ap (λ l. length l) none))
  for_good end (inl (close, is, e)) some = λ more.
      let t = first_text d rest field left f in (
        omega (
          arith,
          some,
          ap (λ l. length l) (split more),
          length-append it.before (t.text ++ (left ++ more)),
          length-append t.text (left ++ more),
          length-append left more,
        ),
        rw (split more) (done_fields d fields it.before (t.text ++ (left ++ more))
            (field ∷ []) (end ++ more) it.texts (last_field d field t.text (left ++ more)
            (end ++ more) t.is_text
            (inl (close, is, ap (λ l. l ++ more) e ∙ append_assoc close end more)))),
      )

  -- nothing does: with a delimiter more it is a record of one field more
  not_for_good : left ≡ [] → NoRecordForGood d bytes
  not_for_good none = λ others after all.
      let t = first_text d rest field left f in
      let comma = d.delimiter ∷ [] in
      let longer = (fields ++ field ∷ []) ++ [] ∷ [] in
      let whole : bytes ++ comma ≡ (it.before ++ (t.text ++ comma)) ++ [] =
      split comma ∙ ap (λ l. it.before ++ (t.text ++ (l ++ comma))) none
      ∙ sym (append-nil (it.before ++ (t.text ++ comma))) in
      let (same, over) = fields_unique d apart others longer (bytes ++ comma) (after ++ comma) []
      (all comma).1
      (rw whole (done_fields d (fields ++ field ∷ []) (it.before ++ (t.text ++ comma)) []
      ([] ∷ []) [] (done_more d fields it.before field t.text it.texts t.is_text)
      (last_field d [] [] [] [] (inr (refl, All-nil (IsPlain d))) (inr (refl, refl))))) in
      omega (arith, ap (λ l. length l) over, length-append after comma)

  pub ended_so : (is : Bool) (end : List ℕ) → MatchBool is (0 < length left) (left ≡ [])
      → RecordEnds d.ends left end
      → MatchBool is (IsRecordForGood d bytes (fields ++ field ∷ []) end) (NoRecordForGood d bytes)
  ended_so true end some ends = for_good end ends some
  ended_so false end none ends = not_for_good none
