-- Trees that are equivalent, where equivalent outputs and folds are equal, are equal.
use Rattle.std.specs.Prelude.{◌≡◌, ◌⊎◌, ◌+ℤ◌, ℤ, pos}
use Rattle.std.proofs.Common.{refl, sym, ap, subst, arith, inl, inr, ◌∙◌}
use Rattle.std.proofs.lemmas.Int.{ints}
use Rattle.winnow.specs.{Infix, Postfix}
use Rattle.winnow.specs.Alike.{AlikeInfix, AlikeTree}
use Rattle.winnow.specs.Premises.{AlikePostfix}
use Rattle.winnow.specs.Equal.{none_is_some}
use Rattle.winnow.specs.InfixCases.{Left, Right, Neither}
use Rattle.winnow.specs.Tree.{Tree, leaf, before, behind, between}

not_both : (p q : ℤ) → p ≡ q → p ≡ q +ℤ pos 1 → ⊥
not_both p q same next = omega (arith, ints, same, next)

same_infix : {H : Type 0} (o q : Infix H) → AlikeInfix (λ f g. f ≡ g) o q → o ≡ q
same_infix (Left p f) (Left q g) (power, right, neither, same) = cc
same_infix (Left p f) (Right q g) (power, right, neither, same) =
    absurd (not_both q p (sym power) (sym right))
same_infix (Left p f) (Neither q g) (power, right, neither, same) = none_is_some neither
same_infix (Right p f) (Left q g) (power, right, neither, same) = absurd (not_both p q power right)
same_infix (Right p f) (Right q g) (power, right, neither, same) = cc
same_infix (Right p f) (Neither q g) (power, right, neither, same) = none_is_some neither
same_infix (Neither p f) (Left q g) (power, right, neither, same) = none_is_some (sym neither)
same_infix (Neither p f) (Right q g) (power, right, neither, same) = none_is_some (sym neither)
same_infix (Neither p f) (Neither q g) (power, right, neither, same) = cc

pub same_tree : {V F G H : Type 0} (r u : Tree V F G H)
    → AlikeTree (λ v w. v ≡ w) (λ f g. f ≡ g) (λ f g. f ≡ g) (λ f g. f ≡ g) r u → r ≡ u
same_tree (leaf v) (leaf w) e = ap leaf e
same_tree (leaf v) (before q g s) e = absurd e
same_tree (leaf v) (behind q g s) e = absurd e
same_tree (leaf v) (between q k s) e = absurd e
same_tree (before p f r) (leaf w) e = absurd e
same_tree (before p f r) (before q g s) (power, fold, e) = let same = same_tree r s e in cc
same_tree (before p f r) (behind q g s) e = absurd e
same_tree (before p f r) (between q k s) e = absurd e
same_tree (behind p f r) (leaf w) e = absurd e
same_tree (behind p f r) (before q g s) e = absurd e
same_tree (behind p f r) (behind q g s) (power, fold, e) = let same = same_tree r s e in cc
same_tree (behind p f r) (between q k s) e = absurd e
same_tree (between o l r) (leaf w) e = absurd e
same_tree (between o l r) (before q g s) e = absurd e
same_tree (between o l r) (behind q g s) e = absurd e
same_tree (between o l r) (between q k s) (sign, e, d) =
    let same = same_infix o q sign in
    let left = same_tree l k e in
    let right = same_tree r s d in cc

-- equal operators are equivalent
pub equal_postfixes : {G : Type 0} (o p : Postfix G) → o ≡ p → AlikePostfix (λ f g. f ≡ g) o p
equal_postfixes o p same = (ap (λ z. z.0) same, ap (λ z. z.1) same)

pub equal_infixes : {H : Type 0} (o q : Infix H) → o ≡ q → AlikeInfix (λ f g. f ≡ g) o q
equal_infixes {H} o q same =
    let P : Infix H → Type 0 = λ z. AlikeInfix (λ f g. f ≡ g) o z in
    subst P same (refl, refl, refl, refl)

-- two clones of one operator, of a choice of two, are equal
pub clones_equal : {A : Type 0} {IsClone : A → A → Type 0}
    → ((u o : A) → IsClone u o → u ≡ o) → (o p : A)
    → ((u : A) × IsClone u o × IsClone u p) ⊎ ((u : A) × IsClone u o × IsClone u p) → o ≡ p
clones_equal same o p (inl (u, a, b)) = sym (same u o a) ∙ same u p b
clones_equal same o p (inr (u, a, b)) = sym (same u o a) ∙ same u p b
