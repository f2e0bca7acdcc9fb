-- Lemmas about one step of the search for the length.
use Rattle.std.specs.Prelude.{◌≡◌, ◌⊎◌, ◌↔◌, ℕ, List, ◌∷◌, Option}
use Rattle.std.specs.Borrow.{Bor}
use Rattle.std.proofs.Common.{sym, subst, inl, inr}
use Rattle.format_http.specs.Bodies.Lengths.{HasLength}
use Rattle.format_http.specs.Bodies.Lists.{HasElement, IsElement, IsThe, parts_of}
use Rattle.format_http.specs.Bodies.Fields.{content_length}
use Rattle.format_http.specs.Heads.Head.{Pair}
use Rattle.format_http.specs.Heads.Named.{IsNamed}

pub both_ways : {P Q R : Type 0} → (P ↔ Q) → (Q ↔ R) → P ↔ R
both_ways x y = ((λ p. y.0 (x.0 p)), (λ r. x.1 (y.1 r)))

-- the first of two does not hold
pub skipped : {P Q : Type 0} → (P → ⊥) → Q ↔ (P ⊎ Q)
skipped not = ((λ q. inr q), (λ x. elim x [ inl p ↦ absurd (not p) | inr q ↦ q ]))

-- the element of a part is one of the whole
pub part_has : (element part : List ℕ) (parts whole : List (List ℕ)) (text : List ℕ)
    → whole ≡ part ∷ parts → (IsElement text part ↔ element ≡ text) → element ≡ text
    → HasElement text whole
part_has element part parts whole text e is x =
    let P : List (List ℕ) → Type 0 = λ l. HasElement text l in subst P (sym e) (inl (is.1 x))

-- one field more
pub field_more : (found one : Option (Bor (List ℕ))) (field : Pair) (fields : List Pair)
    (text : List ℕ) → IsNamed content_length field.0
    → ((IsThe found text ⊎ HasElement text (parts_of field.1)) ↔ IsThe one text)
    → (IsThe one text ⊎ HasLength text fields)
    ↔ (IsThe found text ⊎ HasLength text (field ∷ fields))
field_more found one field fields text named is = (there, back)
  where
    there : IsThe one text ⊎ HasLength text fields
        → IsThe found text ⊎ HasLength text (field ∷ fields)
    there (inl x) = elim (is.1 x) [
      | inl y ↦ inl y
      | inr y ↦ inr (inl (named, y))
    ]
    there (inr x) = inr (inr x)

    back : IsThe found text ⊎ HasLength text (field ∷ fields)
        → IsThe one text ⊎ HasLength text fields
    back (inl x) = inl (is.0 (inl x))
    back (inr (inl x)) = inl (is.0 (inr x.1))
    back (inr (inr x)) = inr x

-- a field of another name
pub other_more : (found : Option (Bor (List ℕ))) (field : Pair) (fields : List Pair)
    (text : List ℕ) → (IsNamed content_length field.0 → ⊥)
    → (IsThe found text ⊎ HasLength text fields)
    ↔ (IsThe found text ⊎ HasLength text (field ∷ fields))
other_more found field fields text not = (there, back)
  where
    there : IsThe found text ⊎ HasLength text fields
        → IsThe found text ⊎ HasLength text (field ∷ fields)
    there (inl x) = inl x
    there (inr x) = inr (inr x)

    back : IsThe found text ⊎ HasLength text (field ∷ fields)
        → IsThe found text ⊎ HasLength text fields
    back (inl x) = inl x
    back (inr (inl x)) = absurd (not x.0)
    back (inr (inr x)) = inr x

-- what a field of the name has, all have
pub field_has : (found : Option (Bor (List ℕ))) (field : Pair) (fields : List Pair)
    (text : List ℕ) → IsNamed content_length field.0
    → IsThe found text ⊎ HasElement text (parts_of field.1)
    → IsThe found text ⊎ HasLength text (field ∷ fields)
field_has found field fields text named (inl x) = inl x
field_has found field fields text named (inr x) = inr (inl (named, x))
