-- The cases of `TableTold` exclude each other, so bytes that are a table give that table, and a
-- ragged record is reported, unless an allocation fails.
use Rattle.std.specs.Prelude.{◌≡◌, ℕ, List, [], ◌∷◌, ◌++◌, length, Result, Ok, Err}
use Rattle.std.specs.List.{All, AllZip}
use Rattle.std.specs.declared.vec.Vec.{Vec}
use Rattle.std.proofs.Common.{refl, sym, subst, inl, inr, ◌∙◌, arith}
use Rattle.std.proofs.lemmas.List.Elements.{All-cons, All-head, All-nil, All-tail}
use Rattle.streams.specs.Kind.{Kind}
use Rattle.streams.specs.declared.needed.Needed.{Needed}
use Rattle.stream_errors.specs.declared.fault.ParseFault.{ParseFault}
use Rattle.format_csv.specs.Csv.{AreRecords, IsRecord}
use Rattle.format_csv.proofs.One.{document_one, no_bytes, same_width}
use Rattle.format_csv.specs.Table.{HasWidth, HeadTold, IsFirst, IsHeaded, IsOdd, IsRagged}
use Rattle.format_csv.specs.Table.{TableTold}
use Rattle.format_csv.proofs.Tables.{table_told}
use Rattle.format_csv.specs.declared.LineEnd.{LineEnd}
use Rattle.format_csv.specs.declared.table.Ragged.{Ragged}
use Rattle.format_csv.specs.declared.table.Table.{Table}
use Rattle.format_csv.specs.declared.table.TableError.{TableError}
use Rattle.format_csv.specs.declared.table.TableError.TheVariants.{Document, Empty, Width}
use Rattle.winnow_core.specs.Exact.Whole.{ReadsAll}
use Rattle.grammars.specs.Grammar.{Each}
use Rattle.grammars.specs.Grammar.Inversion.{Listed}
use Rattle.format_csv.specs.Answered.{Answers, AnswersRagged, IsAnswered, SameFields, SameNumbers}

module _ {A : Type 0} where
  -- records of the same fields are of one width
  widths_as : (width : ℕ) (xs ys : List (Vec (Vec ℕ A) A)) → AllZip SameFields xs ys
      → All (HasWidth width) xs → All (HasWidth width) ys
  widths_as width [] [] same all = All-nil (HasWidth width)
  widths_as width [] (y ∷ ys) same all = absurd same
  widths_as width (x ∷ xs) [] same all = absurd same
  widths_as width (x ∷ xs) (y ∷ ys) (same, others) all = All-cons (HasWidth width) y ys
      (sym (same_width x y same) ∙ All-head (HasWidth width) x xs all)
      (widths_as width xs ys others (All-tail (HasWidth width) x xs all))

  behind_all : (width : ℕ) (xs ys : List (Vec (Vec ℕ A) A)) → All (HasWidth width) (xs ++ ys)
      → All (HasWidth width) ys
  behind_all width [] ys all = all
  behind_all width (x ∷ xs) ys all =
      behind_all width xs ys (All-tail (HasWidth width) x (xs ++ ys) all)

  -- of a table no record is ragged
  none_ragged : (header : Vec (Vec ℕ A) A) (records all : List (Vec (Vec ℕ A) A)) (ragged : Ragged)
      → AllZip SameFields (header ∷ records) all
      → All (HasWidth (length header.items)) records → IsRagged all ragged → ⊥
  none_ragged header records [] ragged zip all never = never
  none_ragged header records (first ∷ others) ragged (same, zip) all (_, place, _, is) =
      let width = length first.items in
      let P : ℕ → Type 0 = λ n. All (HasWidth n) records in
      let Q : List (Vec (Vec ℕ A) A) → Type 0 = λ l. All (HasWidth width) l in
      let wide = widths_as width records others zip
      (subst P (same_width header first same) all) in
      let (has, odd) = is.is_one in
      odd (sym has ∙ All-head (HasWidth width) is.found is.behind
      (behind_all width is.before (is.found ∷ is.behind) (subst Q is.whole wide)))

  pub table_answered : {I X : Type 0} (inner_kind : X → Kind) (ends : LineEnd) (bytes : List ℕ)
      (table : Table A) (document : Vec (Vec (Vec ℕ A) A) A)
      (result : Result (Table A) (TableError (ParseFault I X Needed)))
      → AreRecords ends bytes document [] → IsHeaded document.items table
      → TableTold inner_kind ends bytes result → Answers inner_kind table result
  unfolding Listed
  table_answered kind ends bytes table document (Ok other) are (is, all) (more, too, (same, _)) =
      let P : List (Vec (Vec ℕ A) A) → Type 0 =
      λ l. AllZip SameFields l (other.header ∷ other.records.items) in
      let Q : List (Vec (Vec ℕ A) A) → Type 0 = λ l. AllZip SameFields document.items l in
      subst P is (subst Q same (document_one ends bytes document more are too))
  table_answered kind ends bytes table document (Err (Document fault)) are (is, all)
      (inl want) = want
  table_answered kind ends bytes table document (Err (Document fault)) are (is, all) (inr none) =
      absurd (none document are)
  table_answered kind ends bytes table document (Err Empty) are (is, all) empty =
      let P : List (Vec (Vec ℕ A) A) → Type 0 = λ l. Each (IsRecord ends) bytes l [] in
      let (mid, first, more) = subst P is are.0 in
      no_bytes ends bytes table.header mid first (sym empty)
  table_answered kind ends bytes table document (Err (Width ragged)) are (is, all)
      (more, too, odd) =
      let P : List (Vec (Vec ℕ A) A) → Type 0 = λ l. AllZip SameFields l more.items in
      none_ragged table.header table.records.items more.items ragged
      (subst P is (document_one ends bytes document more are too)) all odd

  -- the first records of another width are in one place, and of one width
  first_same : (width h k : ℕ) (xs ys : List (Vec (Vec ℕ A) A)) (o p : Vec (Vec ℕ A) A)
      (behind others : List (Vec (Vec ℕ A) A))
      → AllZip SameFields (xs ++ (o ∷ behind)) (ys ++ (p ∷ others)) → All (HasWidth width) xs
      → All (HasWidth width) ys → IsOdd width h o → IsOdd width k p
      → (length xs ≡ length ys) × (h ≡ k)
  first_same width h k [] [] o p behind others (same, zip) all each (has, odd) (is, other) =
      (refl, sym has ∙ same_width o p same ∙ is)
  first_same width h k [] (y ∷ ys) o p behind others (same, zip) all each (has, odd) (is, other) =
      absurd (odd (sym has ∙ same_width o y same
      ∙ All-head (HasWidth width) y ys each))
  first_same width h k (x ∷ xs) [] o p behind others (same, zip) all each (has, odd) (is, other) =
      absurd (other (sym is ∙ sym (same_width x p same)
      ∙ All-head (HasWidth width) x xs all))
  first_same width h k (x ∷ xs) (y ∷ ys) o p behind others (same, zip) all each odd other =
      let (e, f) = first_same width h k xs ys o p behind others zip
      (All-tail (HasWidth width) x xs all) (All-tail (HasWidth width) y ys each) odd other in
      (omega (arith, e), f)

  ragged_same : (all more : List (Vec (Vec ℕ A) A)) (r s : Ragged) → AllZip SameFields all more
      → IsRagged all r → IsRagged more s → SameNumbers r s
  ragged_same [] more r s zip never is = absurd never
  ragged_same (o ∷ os) [] r s zip is never = absurd never
  ragged_same (o ∷ os) (p ∷ ps) r s (same, zip) (w, place, n, is) (v, other, m, are) =
      let width = length p.items in
      let e = same_width o p same in
      let P : ℕ → Type 0 = λ n. IsFirst (HasWidth n) (IsOdd n r.has) os place in
      let it = subst P e is in
      let Q : List (Vec (Vec ℕ A) A) → Type 0 = λ l. AllZip SameFields l ps in
      let R : List (Vec (Vec ℕ A) A) → Type 0 =
      λ l. AllZip SameFields (it.before ++ (it.found ∷ it.behind)) l in
      let (places, widths) = first_same width r.has s.has it.before are.before it.found are.found
      it.behind are.behind (subst R are.whole (subst Q it.whole zip)) it.all_such are.all_such
      it.is_one are.is_one in
      (omega (arith, n, m, places, it.place_is, are.place_is), (widths, w ∙ e ∙ sym v))

  ragged_some : (ends : LineEnd) (bytes : List ℕ) (all : List (Vec (Vec ℕ A) A)) (ragged : Ragged)
      → Each (IsRecord ends) bytes all [] → IsRagged all ragged → bytes ≡ [] → ⊥
  ragged_some ends bytes [] ragged each never empty = never
  ragged_some ends bytes (o ∷ os) ragged (mid, first, more) is empty =
      no_bytes ends bytes o mid first (sym empty)

  pub ragged_answered : {I X : Type 0} (inner_kind : X → Kind) (ends : LineEnd) (bytes : List ℕ)
      (ragged : Ragged) (document : Vec (Vec (Vec ℕ A) A) A)
      (result : Result (Table A) (TableError (ParseFault I X Needed)))
      → AreRecords ends bytes document [] → IsRagged document.items ragged
      → TableTold inner_kind ends bytes result → AnswersRagged inner_kind ragged result
  unfolding Listed
  ragged_answered kind ends bytes ragged document (Ok table) are odd (more, too, (same, all)) =
      let P : List (Vec (Vec ℕ A) A) → Type 0 = λ l. AllZip SameFields l document.items in
      none_ragged table.header table.records.items document.items ragged
      (subst P same (document_one ends bytes more document too are)) all odd
  ragged_answered kind ends bytes ragged document (Err (Document fault)) are odd (inl want) = want
  ragged_answered kind ends bytes ragged document (Err (Document fault)) are odd (inr none) =
      absurd (none document are)
  ragged_answered kind ends bytes ragged document (Err Empty) are odd empty =
      ragged_some ends bytes document.items ragged are.0 odd empty
  ragged_answered kind ends bytes ragged document (Err (Width other)) are odd (more, too, is) =
      ragged_same document.items more.items ragged other
      (document_one ends bytes document more are too) odd is

  pub told_answers : {I X : Type 0} (inner_kind : X → Kind) (ends : LineEnd) (bytes : List ℕ)
      (result : Result (Table A) (TableError (ParseFault I X Needed)))
      → TableTold inner_kind ends bytes result → IsAnswered inner_kind ends bytes result
  told_answers kind ends bytes result told document are = (
    λ table is. table_answered kind ends bytes table document result are is told,
    λ ragged is. ragged_answered kind ends bytes ragged document result are is told,
  )

  pub table_answers : {I X : Type 0} {inner_kind : X → Kind} {bytes : List ℕ}
      {document : Vec (Vec (Vec ℕ A) A) A} (ends : LineEnd)
      (result : Result (Table A) (TableError (ParseFault I X Needed)))
      → ReadsAll {I = I} inner_kind (AreRecords ends) bytes (Ok document)
      → HeadTold document.items result → IsAnswered inner_kind ends bytes result
  table_answers {inner_kind = inner_kind} {bytes = bytes} ends result r told =
      told_answers inner_kind ends bytes result (table_told ends result r told)
