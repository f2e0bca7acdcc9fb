-- Units and signs give one result, and two that are equal give equal ones.
use Rattle.std.specs.Prelude.{◌≡◌, ℕ, ℤ}
use Rattle.std.proofs.Common.{refl, subst, sym, ◌∙◌}
use Rattle.winnow.specs.Input.{Input}
use Rattle.winnow.specs.Form.{Answer}
use Rattle.winnow.specs.{Infix, Postfix}
use Rattle.winnow.specs.OperatorGrammar.{Grammar}
use Rattle.winnow.specs.Operators.{fold_of}
use Rattle.winnow.specs.Alike.{AlikeInfix}
use Rattle.winnow.specs.Items.{FoldGives, GivesAtMostOne}
use Rattle.winnow.specs.Items.Premises.{gives_alike, gives_both_alike}
use Rattle.winnow.specs.OneTree.{IsTheOneTree}
use Rattle.winnow.specs.Premises.{AlikePostfix, FoldAlike, FoldsAlike}
use Rattle.example_formulas.specs.declared.sizes.Sign.{Sign}
use Rattle.example_formulas.specs.declared.sizes.Sign.TheVariants.{Plus, Times}
use Rattle.example_formulas.specs.declared.sizes.Scale.{Scale}
use Rattle.example_formulas.specs.Sizes.{sign_value, unit_value}

-- a unit, or a sign, gives one number
pub one_unit : (unit : Scale) (v : ℕ) → GivesAtMostOne (unit_value unit v)
one_unit unit v x y is was = is.0 ∙ sym was.0

pub one_sign : (sign : Sign) (v w : ℕ) → GivesAtMostOne (sign_value sign v w)
one_sign Plus v w x y is was = is.0 ∙ sym was.0
one_sign Times v w x y is was = is.0 ∙ sym was.0

pub same_units : {T : Type 0} (o p : Postfix Scale) → o ≡ p
    → AlikePostfix
    (FoldAlike {T = T} (λ v w. v ≡ w) (λ f i v a j. FoldGives (unit_value f v) i a j)) o p
same_units {T} o p same =
    let P : Postfix Scale → Type 0 = λ z. AlikePostfix
    (FoldAlike {T = T} (λ v w. v ≡ w) (λ f i v a j. FoldGives (unit_value f v) i a j)) o z in
    subst P same (refl, gives_alike unit_value o.1 (one_unit o.1))

pub same_signs : {T : Type 0} (o p : Infix Sign) → o ≡ p
    → AlikeInfix
    (FoldsAlike {T = T} (λ v w. v ≡ w) (λ f i v w a j. FoldGives (sign_value f v w) i a j)) o p
same_signs {T} o p same =
    let P : Infix Sign → Type 0 = λ z. AlikeInfix
    (FoldsAlike {T = T} (λ v w. v ≡ w) (λ f i v w a j. FoldGives (sign_value f v w) i a j)) o z in
    subst P same (refl, refl, refl, gives_both_alike sign_value (fold_of o) (one_sign (fold_of o)))

-- a run is exact from states, and at a level, that are these
pub exact_at : {S W T V F G H : Type 0} {g : Grammar S W T V F G H} {alike : V → V → Type 0}
    {s u : S × W} {level least : ℤ} {i j : Input T} {answer : Answer V} {t : S × W}
    → IsTheOneTree g alike s level i answer t j → s ≡ u → level ≡ least
    → (t : S × W) × IsTheOneTree g alike u least i answer t j
exact_at {S} {W} {g = g} {alike} {s} {u} {level} {least} {i} {j} {answer} {t} exact same zero =
    let P : S × W → Type 0 = λ z. IsTheOneTree g alike z least i answer t j in
    let Q : ℤ → Type 0 = λ l. IsTheOneTree g alike s l i answer t j in
    (t, subst P same (subst Q zero exact))
