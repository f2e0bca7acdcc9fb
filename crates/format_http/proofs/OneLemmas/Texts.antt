-- Texts of bytes of a kind, before a byte that is none.
use Rattle.std.proofs.Common.{◌≡◌, ◌∙◌, ◌++◌, ◌∷◌, ℕ, List, [], ap, refl, subst, sym}
use Rattle.std.specs.List.{All}
use Rattle.std.proofs.lemmas.List.Elements.{All-head, All-tail}
use Rattle.streams.specs.Equal.{same_first, same_others}

stranger : (P : ℕ → Type 0) (x y : ℕ) (xs ys : List ℕ) → (P x → ⊥) → P y → x ∷ xs ≡ y ∷ ys → ⊥
stranger P x y xs ys not is e = not (subst P (sym (same_first e)) is)

-- bytes of P before a byte that is not in P are unique, and so is the rest
pub one_text : (P : ℕ → Type 0) (x : ℕ) (xs ys a b : List ℕ) → (P x → ⊥) → All P xs → All P ys
    → xs ++ x ∷ a ≡ ys ++ x ∷ b → (xs ≡ ys) × (a ≡ b)
one_text P x [] [] a b not p q e = (refl, same_others e)
one_text P x [] (y ∷ ys) a b not p q e =
    absurd (stranger P x y a (ys ++ x ∷ b) not (All-head P y ys q) e)
one_text P x (z ∷ xs) [] a b not p q e =
    absurd (stranger P x z b (xs ++ x ∷ a) not (All-head P z xs p) (sym e))
one_text P x (z ∷ xs) (y ∷ ys) a b not p q e =
    let again = one_text P x xs ys a b not (All-tail P z xs p) (All-tail P y ys q)
    (same_others e) in (
      ap (λ w. w ∷ xs) (same_first e) ∙ ap (λ l. y ∷ l) again.0,
      again.1,
    )

-- after bytes of P the first bytes that are not in P are at the same offset
pub one_stranger : (P : ℕ → Type 0) (x y : ℕ) (xs ys a b : List ℕ) → (P x → ⊥) → (P y → ⊥)
    → All P xs → All P ys → xs ++ x ∷ a ≡ ys ++ y ∷ b → x ∷ a ≡ y ∷ b
one_stranger P x y [] [] a b not other p q e = e
one_stranger P x y [] (w ∷ ys) a b not other p q e =
    absurd (stranger P x w a (ys ++ y ∷ b) not (All-head P w ys q) e)
one_stranger P x y (z ∷ xs) [] a b not other p q e =
    absurd (stranger P y z b (xs ++ x ∷ a) other (All-head P z xs p) (sym e))
one_stranger P x y (z ∷ xs) (w ∷ ys) a b not other p q e =
    one_stranger P x y xs ys a b not other (All-tail P z xs p) (All-tail P w ys q)
    (same_others e)

pub in_middle : (P : ℕ → Type 0) (xs : List ℕ) (y : ℕ) (ys : List ℕ) → All P (xs ++ y ∷ ys) → P y
in_middle P [] y ys all = All-head P y ys all
in_middle P (x ∷ xs) y ys all = in_middle P xs y ys (All-tail P x (xs ++ y ∷ ys) all)
