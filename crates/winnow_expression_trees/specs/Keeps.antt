-- The trees that respect precedence, as corrected.
use Rattle.std.specs.Prelude.{◌≡◌, ◌≤ℤ◌, ◌<ℤ◌, ◌⊎◌, ℤ, Bool, true, false, Some}
use Rattle.winnow_expression.specs.Operators.{left_power, right_power}
use Rattle.winnow_expression_trees.specs.Tree.{Tree, leaf, before, behind, between, top_neither}
use Rattle.winnow_expression.specs.declared.combinator.places.Next.{Next}
use Rattle.winnow_expression.specs.declared.combinator.places.Next.TheVariants.{Infix as infix_read}
use Rattle.winnow_expression.specs.declared.combinator.operators.Infix.{Infix}
use Rattle.winnow_expression_trees.specs.Reading.{IsBelowPower, power_of}

-- Each operator on the left edge reaches m.
abbrev pub LeftEdgeReaches : {V F G H : Type 0} → ℤ → Tree V F G H → Type 0
LeftEdgeReaches m (leaf v) = Unit {0}
LeftEdgeReaches m (before p f r) = Unit {0}
LeftEdgeReaches m (behind p g l) = (m ≤ℤ p) × LeftEdgeReaches m l
LeftEdgeReaches m (between o l r) = (m ≤ℤ left_power o) × LeftEdgeReaches m l

-- p reaches no right power on the right edge.
abbrev pub RightEdgeBelow : {V F G H : Type 0} → Tree V F G H → ℤ → Type 0
RightEdgeBelow (leaf v) p = Unit {0}
RightEdgeBelow (before q f r) p = (p <ℤ q) × RightEdgeBelow r p
RightEdgeBelow (behind q g l) p = Unit {0}
RightEdgeBelow (between o l r) p = (p <ℤ right_power o) × RightEdgeBelow r p

-- At each operator within: the left edge of its right operand reaches its right power; it reaches
-- no right power on the right edge of its left operand; and an infix has no left operand with a
-- neither of its power on top.
abbrev pub Binds : {V F G H : Type 0} → Tree V F G H → Type 0
Binds (leaf v) = Unit {0}
Binds (before p f r) = Binds r × LeftEdgeReaches p r
Binds (behind p g l) = Binds l × RightEdgeBelow l p
Binds (between o l r) =
    Binds l × Binds r × RightEdgeBelow l (left_power o) × (top_neither l ≡ Some (left_power o) → ⊥)
    × LeftEdgeReaches (right_power o) r

-- An operand of power m is reached by p, no operand within its right edge is, and it has a neither
-- of
-- power p on top.
abbrev pub MeetsHere : {V F G H : Type 0} → ℤ → Tree V F G H → ℤ → Type 0
MeetsHere m t p = RightEdgeBelow t p × (m ≤ℤ p) × (top_neither t ≡ Some p)

-- The innermost operand on the right edge whose power p reaches is there, and has a neither of
-- power p on top.
abbrev pub Meets : {V F G H : Type 0} → Tree V F G H → ℤ → Type 0
Meets (leaf v) p = ⊥
Meets (before q f r) p = Meets r p ⊎ MeetsHere q r p
Meets (behind q g l) p = ⊥
Meets (between o l r) p = Meets r p ⊎ MeetsHere (right_power o) r p

-- The next item reaches no right power on the right edge.
abbrev pub Above : {V F G H : Type 0} → Tree V F G H → Next G H → Type 0
Above t x = (p : ℤ) → power_of x ≡ Some p → RightEdgeBelow t p

-- It reaches neither the level nor a right power on the right edge.
abbrev pub Ends : {V F G H : Type 0} → ℤ → Tree V F G H → Next G H → Type 0
Ends m t x = IsBelowPower m x × Above t x

-- Or it is an infix, and the innermost right-edge operand, or the whole, whose power, or level, it
-- reaches has a neither of its left power on top.
abbrev pub EndsAll : {V F G H : Type 0} → ℤ → Tree V F G H → Next G H → Type 0
EndsAll {H = H} m t x =
    (o : Infix H) × (x ≡ infix_read o) × (Meets t (left_power o) ⊎ MeetsHere m t (left_power o))

abbrev pub Outcome : {V F G H : Type 0} → Bool → ℤ → Tree V F G H → Next G H → Type 0
Outcome false m t x = Ends m t x
Outcome true m t x = EndsAll m t x

-- The tree respects precedence at level `m`, if it ends at `j`. The flag distinguishes the two
-- ways.
pub record RespectsPrecedence {V F G H P : Type 0} (next : P → Next G H → P → Type 0) (m : ℤ)
    (t : Tree V F G H) (j : P) (all : Bool) : Type 0 where
  pub binds : Binds t
  pub reaches : LeftEdgeReaches m t
  -- what is read there
  pub then_read : Next G H
  pub then_at : P
  pub reads : next j then_read then_at
  pub ends : Outcome all m t then_read
