-- Values that are equal: their parts are, and some never are.
use Rattle.std.specs.Prelude.{◌≡◌, true, false, List, [], ◌∷◌, ◌++◌, length, Some, None}
use Rattle.std.proofs.Common.{refl, ap, ◌∙◌, arith}

-- lists that are equal begin with the same ...
pub same_first : {X : Type 0} {x y : X} {xs ys : List X} → x ∷ xs ≡ y ∷ ys → x ≡ y
same_first e = cc

pub same_others : {X : Type 0} {x y : X} {xs ys : List X} → x ∷ xs ≡ y ∷ ys → xs ≡ ys
same_others e = cc

-- what follows one beginning follows the other
pub same_rest : {X : Type 0} (xs ys zs : List X) → xs ++ ys ≡ xs ++ zs → ys ≡ zs
same_rest [] ys zs e = e
same_rest (x ∷ xs) ys zs e = same_rest xs ys zs (same_others e)

-- two equal lists, each divided after as many tokens: their fronts are equal ...
pub same_front : {X : Type 0} (f g rest more : List X) → length f ≡ length g
    → f ++ rest ≡ g ++ more → f ≡ g
same_front [] [] rest more n e = refl
same_front [] (y ∷ g) rest more n e = absurd (omega (arith, n))
same_front (x ∷ f) [] rest more n e = absurd (omega (arith, n))
same_front (x ∷ f) (y ∷ g) rest more n e =
    ap (λ z. z ∷ f) (same_first e)
    ∙ ap (λ l. y ∷ l) (same_front f g rest more (omega (arith, n)) (same_others e))

-- ... and what follows is
pub same_behind : {X : Type 0} (f g rest more : List X) → length f ≡ length g
    → f ++ rest ≡ g ++ more → rest ≡ more
same_behind [] [] rest more n e = e
same_behind [] (y ∷ g) rest more n e = absurd (omega (arith, n))
same_behind (x ∷ f) [] rest more n e = absurd (omega (arith, n))
same_behind (x ∷ f) (y ∷ g) rest more n e =
    same_behind f g rest more (omega (arith, n)) (same_others e)

-- what there is of two is the same
pub same_some : {X : Type 0} {x y : X} → Some x ≡ Some y → x ≡ y
same_some e = cc

-- nothing is not something
pub none_is_some : {X P : Type 0} {x : X} → None ≡ Some x → P
none_is_some e = absurd (cc)

-- true is not false
pub true_is_false : {P : Type 0} → true ≡ false → P
true_is_false e = absurd (cc)
