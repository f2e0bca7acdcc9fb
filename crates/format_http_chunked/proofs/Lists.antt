-- Bytes after one another.
use Rattle.std.specs.Prelude.{◌≡◌, ◌≤◌, ◌-◌, ◌++◌, take, drop, ℕ, List, [], ◌∷◌, length}
use Rattle.std.proofs.Common.{arith, refl, sym, subst, ap, ◌∙◌, length-append}
use Rattle.std.proofs.lemmas.List.{take-append-drop}

pub heads_equal : {x y : ℕ} {xs ys : List ℕ} → x ∷ xs ≡ y ∷ ys → x ≡ y
heads_equal e = cc

pub tails_equal : {x y : ℕ} {xs ys : List ℕ} → x ∷ xs ≡ y ∷ ys → xs ≡ ys
tails_equal e = cc

-- what is the first of some bytes is the first of more of them
pub front_splits : (taken piece bytes rest : List ℕ) → length taken ≤ length piece
    → taken ++ bytes ≡ piece ++ rest
    → (left : List ℕ) × (piece ≡ taken ++ left) × (bytes ≡ left ++ rest)
front_splits [] piece bytes rest less e = (piece, refl, e)
front_splits (t ∷ ts) [] bytes rest less e = absurd (omega (arith, less))
front_splits (t ∷ ts) (p ∷ ps) bytes rest less e =
    let (left, f, g) = front_splits ts ps bytes rest (omega (arith, less)) (tails_equal e) in
    (left, ap (λ l. p ∷ l) f ∙ ap (λ x. x ∷ (ts ++ left)) (sym (heads_equal e)), g)

pub take_front : (front rest : List ℕ) → take (length front) (front ++ rest) ≡ front
take_front [] [] = refl
take_front [] (b ∷ bs) = refl
take_front (b ∷ bs) rest = ap (λ l. b ∷ l) (take_front bs rest)

-- the prefix of some bytes, by the length of the rest
pub take_prefix_by_rest : (bytes front rest : List ℕ) (n : ℕ) → bytes ≡ front ++ rest
    → n ≡ length bytes - length rest → take n bytes ≡ front
take_prefix_by_rest bytes front rest n e many =
    let size : n ≡ length front =
    omega (arith, many, ap (λ (l : List ℕ). length l) e, length-append front rest) in
    subst (λ k. take k bytes ≡ front) (sym size)
    (subst (λ l. take (length front) l ≡ front) (sym e) (take_front front rest))

-- what bytes are cut in is all of them
pub front_back : (n : ℕ) (bytes front back : List ℕ) → front ≡ take n bytes
    → back ≡ drop n bytes → bytes ≡ front ++ back
front_back n bytes front back e f =
    sym (take-append-drop n bytes) ∙ ap (λ l. l ++ drop n bytes) (sym e)
    ∙ ap (λ l. front ++ l) (sym f)
