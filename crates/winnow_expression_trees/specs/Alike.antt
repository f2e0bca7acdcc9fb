-- Equivalence of operators, and of trees of them, up to outputs and folds.
use Rattle.std.specs.Prelude.{◌≡◌}
use Rattle.winnow_expression.specs.Operators.{fold_of, left_power, neither_power, right_power}
use Rattle.winnow_expression_trees.specs.Tree.{Tree, leaf, before, behind, between}
use Rattle.winnow_expression.specs.declared.combinator.places.First.{First}
use Rattle.winnow_expression.specs.declared.combinator.places.First.TheVariants.{Operand}
use Rattle.winnow_expression.specs.declared.combinator.places.First.TheVariants.{
  Prefix as prefix_read,
}
use Rattle.winnow_expression.specs.declared.combinator.places.Next.{Next}
use Rattle.winnow_expression.specs.declared.combinator.places.Next.TheVariants.{Nothing, Postfix}
use Rattle.winnow_expression.specs.declared.combinator.places.Next.TheVariants.{Infix as infix_read}
use Rattle.winnow_expression.specs.declared.combinator.operators.Infix.{Infix}

abbrev pub AlikeFirst : {V F : Type 0} → (V → V → Type 0) → (F → F → Type 0) → First V F → First V F
    → Type 0
AlikeFirst av af (Operand v) (Operand w) = av v w
AlikeFirst av af (Operand v) (prefix_read q g) = ⊥
AlikeFirst av af (prefix_read p f) (Operand w) = ⊥
AlikeFirst av af (prefix_read p f) (prefix_read q g) = (p ≡ q) × af f g

-- of one side and power
abbrev pub AlikeInfix : {H : Type 0} → (H → H → Type 0) → Infix H → Infix H → Type 0
AlikeInfix ah o q =
    (left_power o ≡ left_power q) × (right_power o ≡ right_power q)
    × (neither_power o ≡ neither_power q) × ah (fold_of o) (fold_of q)

abbrev pub AlikeNext : {G H : Type 0} → (G → G → Type 0) → (H → H → Type 0) → Next G H → Next G H
    → Type 0
AlikeNext ag ah Nothing Nothing = Unit {0}
AlikeNext ag ah Nothing (Postfix q g) = ⊥
AlikeNext ag ah Nothing (infix_read o) = ⊥
AlikeNext ag ah (Postfix p f) Nothing = ⊥
AlikeNext ag ah (Postfix p f) (Postfix q g) = (p ≡ q) × ag f g
AlikeNext ag ah (Postfix p f) (infix_read o) = ⊥
AlikeNext ag ah (infix_read o) Nothing = ⊥
AlikeNext ag ah (infix_read o) (Postfix q g) = ⊥
AlikeNext ag ah (infix_read o) (infix_read q) = AlikeInfix ah o q

-- The same tree, except for outputs and folds, which are equivalent.
abbrev pub AlikeTree : {V F G H : Type 0} → (V → V → Type 0) → (F → F → Type 0) → (G → G → Type 0)
    → (H → H → Type 0) → Tree V F G H → Tree V F G H → Type 0
AlikeTree av af ag ah (leaf v) (leaf w) = av v w
AlikeTree av af ag ah (before p f r) (before q g s) = (p ≡ q) × af f g × AlikeTree av af ag ah r s
AlikeTree av af ag ah (behind p f r) (behind q g s) = (p ≡ q) × ag f g × AlikeTree av af ag ah r s
AlikeTree av af ag ah (between o l r) (between q k s) =
    AlikeInfix ah o q × AlikeTree av af ag ah l k × AlikeTree av af ag ah r s
AlikeTree av af ag ah t u = ⊥
