-- What calls in sequence read is the records that they return, and the bytes that they hold.
use Rattle.std.specs.Prelude.{◌≡◌, ◌⊎◌, ◌+◌, ◌<◌, ℕ, List, [], ◌∷◌, ◌++◌, length, Bool}
use Rattle.std.specs.Prelude.{Result, Ok, Err}
use Rattle.std.specs.Prelude.{false, true}
use Rattle.std.proofs.Common.{refl, sym, ap, subst, inl, inr, ◌∙◌, arith, append_assoc}
use Rattle.std.proofs.lemmas.List.{append-nil, length-append}
use Rattle.std.specs.Io.KnownBytes.{IsAtEnd}
use Rattle.format_csv_records.proofs.Alone.{line_end_is_not_empty}
use Rattle.format_csv_records.specs.Dialects.{AreFields, IsRecord, RecordEnds}
use Rattle.format_csv_records.specs.declared.dialect.Dialect.{Dialect}
use Rattle.format_csv_records.specs.declared.dialect.LineEnds.{LineEnds}
use Rattle.format_csv_records.specs.Calls.{Calls, Texts, returned}
use Rattle.format_csv_records.specs.Calls as calls
use Rattle.format_csv_records.specs.Results.{IsAnswer}
use Rattle.format_csv_records.specs.declared.error.ReadError.{ReadError}
use Rattle.format_csv_records.specs.declared.error.ReadError.TheVariants.{Failed, Invalid}
use Rattle.format_csv_records.specs.declared.error.ReadError.TheVariants.{OutOfMemory}

-- the encoding of a record at the front of bytes
record Front (d : Dialect) (bytes : List ℕ) (fields : List (List ℕ)) (rest : List ℕ) : Type 0 where
  text : List ℕ
  are : AreFields d text fields []
  is : bytes ≡ text ++ rest
  some : (0 < length text) ⊎ (rest ≡ [])

ends_front : (ends : LineEnds) (bytes rest : List ℕ) → RecordEnds ends bytes rest
    → (end : List ℕ) × RecordEnds ends end [] × (bytes ≡ end ++ rest)
    × ((0 < length end) ⊎ (rest ≡ []))
ends_front ends bytes rest (inl (end, is, e)) =
    (end, inl (end, is, sym (append-nil end)), e, inl (line_end_is_not_empty ends end is))
ends_front ends bytes rest (inr (none, over)) =
    ([], inr (refl, refl), none ∙ sym over, inr over)

fields_front : (d : Dialect) (fields : List (List ℕ)) (bytes rest : List ℕ)
    → AreFields d bytes fields rest → Front d bytes fields rest
unfolding AreFields
fields_front d [] bytes rest it = absurd it
fields_front d (field ∷ []) bytes rest (text, behind, is, e, over) =
    let (end, ended, same, some) = ends_front d.ends behind rest over in record {
      text = text ++ end;
      are = (text, end, is, refl, ended);
      is = e ∙ ap (λ l. text ++ l) same ∙ sym (append_assoc text end rest);
      some = elim some [
        | inl more ↦ inl (omega (arith, more, length-append text end))
        | inr none ↦ inr none
      ];
    }
fields_front d (field ∷ (next ∷ fields)) bytes rest (text, behind, is, e, others) =
    let more = fields_front d (next ∷ fields) behind rest others in record {
      text = text ++ (d.delimiter ∷ more.text);
      are = (text, more.text, is, refl, more.are);
      is = e ∙ ap (λ l. text ++ (d.delimiter ∷ l)) more.is
          ∙ sym (append_assoc text (d.delimiter ∷ more.text) rest);
      some = inl (omega (arith, length-append text (d.delimiter ∷ more.text)));
    }

record_front : (d : Dialect) (bytes : List ℕ) (fields : List (List ℕ)) (rest : List ℕ)
    → IsRecord d bytes fields rest
    → (text : List ℕ) × IsRecord d text fields [] × (bytes ≡ text ++ rest)
record_front d bytes fields rest it =
    let front = fields_front d fields bytes rest it.1 in
    let count : length bytes ≡ length front.text + length rest =
    ap (λ l. length l) front.is ∙ length-append front.text rest in
    let some : 0 < length front.text = elim front.some [
      | inl more ↦ more
      | inr none ↦ omega (arith, it.0, count, ap (λ l. length l) none)
    ] in
    (front.text, (some, front.are), front.is)

module _ (d : Dialect) (held mid got read left : List ℕ) (records : List (List (List ℕ)))
    (more : Texts d (mid ++ read) records left) where
  whole : held ++ (got ++ read) ≡ (held ++ got) ++ read
  whole = sym (append_assoc held got read)

  none_more : mid ≡ held ++ got → Texts d (held ++ (got ++ read)) records left
  none_more e = subst (λ l. Texts d l records left)
      (ap (λ l. l ++ read) e ∙ sym whole) more

  one_more : (IsOver : Type 0) (start : ℕ) (result : Result Bool ReadError)
      (fields : List (List ℕ)) → IsAnswer d (held ++ got) IsOver start result fields mid
      → Texts d (held ++ (got ++ read)) (returned result fields ++ records) left
  one_more IsOver start (Ok true) fields (it, final) =
      let (text, is, e) = record_front d (held ++ got) fields mid it in
      subst (λ l. Texts d l (fields ∷ records) left)
      (sym (whole ∙ ap (λ l. l ++ read) e ∙ append_assoc text mid read))
      (calls.a_text text is more)
  one_more IsOver start (Ok false) fields (none, over, f, end) = none_more (over ∙ sym none)
  one_more IsOver start (Err (Invalid fault)) fields (why, same, f) = none_more same
  one_more IsOver start (Err (Failed error)) fields (of, wants, same, f) = none_more same
  one_more IsOver start (Err OutOfMemory) fields (same, f) = none_more same

pub in_sequence : (d : Dialect) (held read left : List ℕ) (records : List (List (List ℕ)))
    → Calls d held read records left → Texts d (held ++ read) records left
in_sequence d held read left records calls.no_call =
    subst (λ l. Texts d l [] held) (sym (append-nil held)) calls.no_text
in_sequence d held read left records (calls.a_call {mid = mid} {read = others} {after = after}
    {start = start} {result = result} {fields = fields} {records = rest} it more) =
    one_more d held mid it.read others left rest
    (in_sequence d mid others left rest more) (IsAtEnd after) start result fields it.told
