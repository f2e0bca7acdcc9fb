-- Items of arrays and objects, and whitespace in front of them.
use Rattle.std.specs.Prelude.{◌≡◌, ◌∷◌, ◌++◌, ℕ, []}
use Rattle.std.specs.Prelude.{Bool, List, false, true}
use Rattle.std.proofs.Common.{ap, append_assoc, arith, inl, inr, refl, sym, ◌∙◌}
use Rattle.std.proofs.lemmas.Bool.Decides.{nat_tests}
use Rattle.std.proofs.lemmas.List.Elements.{All-cons, All-nil}
use Rattle.format_json_extents.proofs.Matching.{then_of_parts}
use Rattle.format_json_extents.specs.Strings.{IsString}
use Rattle.format_json_extents.specs.Texts.{CommaSeparated, Either, IsByte, Then, before, last}
use Rattle.format_json_extents.specs.Value.{IsClosing, IsColon, IsItem, IsItemsTail, IsNestedTail}
use Rattle.format_json_extents.specs.Value.{IsWhitespace, IsWhitespaceByte}
use Rattle.format_json_pieces.proofs.Completions.{IsAfterItem, IsComma}
use Rattle.format_json_pieces.proofs.Completions.{in_front}
use Rattle.format_json_pieces.specs.Begun.{is_whitespace}

-- ---- whitespace

space : (b : ℕ) → is_whitespace b ≡ true → IsWhitespaceByte b
space b e = grind (arith, nat_tests, e)

pub no_gap : IsWhitespace []
no_gap = All-nil IsWhitespaceByte

pub gap_front : (b : ℕ) → is_whitespace b ≡ true → (l : List ℕ) → IsWhitespace l
    → IsWhitespace (b ∷ l)
gap_front b e l all = All-cons IsWhitespaceByte b l (space b e) all

-- ---- items

module _ (V : List ℕ → Type 0) where
  item_gap : (keyed : Bool) (b : ℕ) → is_whitespace b ≡ true → (l : List ℕ) → IsItem keyed V l
      → IsItem keyed V (b ∷ l)
  item_gap true b e l = in_front (b ∷ []) (λ m. in_front (b ∷ []) (gap_front b e))
  item_gap false b e l = in_front (b ∷ []) (gap_front b e)

  pub items_gap : (keyed : Bool) (b : ℕ) → is_whitespace b ≡ true → (l : List ℕ)
      → CommaSeparated (IsItem keyed V) l → CommaSeparated (IsItem keyed V) (b ∷ l)
  items_gap keyed b e l (last _ is) = last (b ∷ l) (item_gap keyed b e l is)
  items_gap keyed b e l (before first others _ is more f) =
      before (b ∷ first) others (b ∷ l) (item_gap keyed b e first is) more (ap (λ m. b ∷ m) f)

  pub nested_gap : (keyed : Bool) (b : ℕ) → is_whitespace b ≡ true → (l : List ℕ)
      → IsNestedTail keyed V l
      → IsNestedTail keyed V (b ∷ l)
  nested_gap keyed b e l (inl none) = inl (in_front (b ∷ []) (gap_front b e) none)
  nested_gap keyed b e l (inr some) = inr (in_front (b ∷ []) (items_gap keyed b e) some)

  -- an item, and what closes the brackets after it
  pub items_of : (keyed : Bool) (X : List ℕ → Type 0)
      → ((x gap : List ℕ) → X x → IsWhitespace gap → IsItem keyed V (x ++ gap)) → (l : List ℕ)
      → Then X (IsAfterItem keyed V) l → IsItemsTail keyed V l
  items_of keyed X item l it = by it.is_second.is_second
    where
      x : List ℕ
      x = it.first

      gap : List ℕ
      gap = it.is_second.first

      is : IsItem keyed V (x ++ gap)
      is = item x gap it.is_first it.is_second.is_first

      whole : l ≡ (x ++ gap) ++ it.is_second.second
      whole =
          it.joins ∙ ap (λ m. x ++ m) it.is_second.joins
          ∙ sym (append_assoc x gap it.is_second.second)

      by : Either (IsByte (IsClosing keyed)) (Then (IsByte IsComma) (IsItemsTail keyed V))
          it.is_second.second → IsItemsTail keyed V l
      by (inl close) =
          then_of_parts (x ++ gap) it.is_second.second (last (x ++ gap) is) close whole
      by (inr more) =
          let items = more.is_second in
          then_of_parts ((x ++ gap) ++ 44 ∷ items.first) items.second
          (before (x ++ gap) items.first ((x ++ gap) ++ 44 ∷ items.first) is items.is_first refl)
          items.is_second
          (whole ∙ ap (λ m. (x ++ gap) ++ m) (more.joins
          ∙ ap (λ m. m ++ more.second) (more.is_first.alone
          ∙ ap (λ c. c ∷ []) more.is_first.is_byte) ∙ ap (λ m. 44 ∷ m) items.joins)
          ∙ sym (append_assoc (x ++ gap) (44 ∷ items.first) items.second))

  pub element : (x gap : List ℕ) → V x → IsWhitespace gap → IsItem false V (x ++ gap)
  element x gap is all = then_of_parts [] (x ++ gap) no_gap (then_of_parts x gap is all refl) refl

  -- a name, a colon and a value, with whitespace between them
  abbrev pub Keyed : List ℕ → Type 0
  Keyed = Then IsString (Then IsWhitespace (Then (IsByte IsColon) (Then IsWhitespace V)))

  pub member : (x gap : List ℕ) → Keyed x → IsWhitespace gap → IsItem true V (x ++ gap)
  member x gap is all =
      let colon = is.is_second in
      let value = colon.is_second in
      let it = value.is_second in
      then_of_parts (is.first ++ (colon.first ++ value.first)) (it.first ++ (it.second ++ gap))
      (then_of_parts [] (is.first ++ (colon.first ++ value.first)) no_gap
      (then_of_parts is.first (colon.first ++ value.first) is.is_first
      (then_of_parts colon.first value.first colon.is_first value.is_first refl) refl) refl)
      (then_of_parts it.first (it.second ++ gap) it.is_first
      (then_of_parts it.second gap it.is_second all refl)
      refl) (simp (is.joins, colon.joins, value.joins, it.joins, append_assoc))
