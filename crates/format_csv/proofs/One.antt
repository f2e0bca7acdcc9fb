-- Uniqueness of documents: bytes encode at most one list of records.
use Rattle.std.specs.Prelude.{◌≡◌, ℕ, List, [], ◌∷◌, length}
use Rattle.std.specs.List.{AllZip}
use Rattle.std.specs.declared.vec.Vec.{Vec}
use Rattle.std.proofs.Common.{sym, ap, subst, ◌∙◌, arith}
use Rattle.std.proofs.lemmas.List.{length-map}
use Rattle.format_csv_records.specs.Commas.{commas_apart}
use Rattle.format_csv_records.proofs.One.{fields_unique}
use Rattle.format_csv.specs.Csv.{AreRecords, IsRecord, bytes_of, commas}
use Rattle.format_csv.specs.declared.LineEnd.{LineEnd}
use Rattle.grammars.specs.Grammar.{Each}
use Rattle.grammars.specs.Grammar.Inversion.{Listed}
use Rattle.format_csv.specs.Answered.{SameFields}

module _ {A : Type 0} where
  pub same_width : (fields others : Vec (Vec ℕ A) A) → SameFields fields others
      → length fields.items ≡ length others.items
  same_width fields others same = sym (length-map fields.items (λ (v : Vec ℕ A). v.items))
      ∙ ap (λ l. length l) same ∙ length-map others.items (λ (v : Vec ℕ A). v.items)

module _ {A : Type 0} (ends : LineEnd) where
  pub no_bytes : {P : Type 0} (bytes : List ℕ) (o : Vec (Vec ℕ A) A) (rest : List ℕ)
      → IsRecord ends bytes o rest → [] ≡ bytes → P
  unfolding IsRecord
  no_bytes bytes o rest (some, are) e = absurd (omega (arith, some, ap (λ l. length l) e))

  each_one : (os ps : List (Vec (Vec ℕ A) A)) (bytes : List ℕ) → Each (IsRecord ends) bytes os []
      → Each (IsRecord ends) bytes ps [] → AllZip SameFields os ps
  unfolding IsRecord
  each_one [] [] bytes a b = tt
  each_one [] (p ∷ ps) bytes a (mid, x, more) = no_bytes bytes p mid x a
  each_one (o ∷ os) [] bytes (mid, x, more) b = no_bytes bytes o mid x b
  each_one (o ∷ os) (p ∷ ps) bytes (mid, x, more) (behind, y, others) =
      let P : List ℕ → Type 0 = λ l. Each (IsRecord ends) l ps [] in
      let (fields, rest) = fields_unique (commas ends) commas_apart (bytes_of o.items)
      (bytes_of p.items) bytes mid behind x.1 y.1 in
      (fields, each_one os ps mid more (subst P (sym rest) others))

  -- a document is one of the same records
  pub document_one : (bytes : List ℕ) (document other : Vec (Vec (Vec ℕ A) A) A)
      → AreRecords ends bytes document [] → AreRecords ends bytes other []
      → AllZip SameFields document.items other.items
  unfolding Listed
  document_one bytes document other a b = each_one document.items other.items bytes a.0 b.0
