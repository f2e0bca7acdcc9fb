-- The steps of reading, from one position to the next.
use Rattle.std.specs.Prelude.{◌≡◌, ◌<◌, ◌<ℤ◌, ℤ, Option, Some, None, Ok}
use Rattle.streams.specs.Input.{Input}
use Rattle.winnow_expression.specs.Grammar.{Grammar}
use Rattle.winnow_expression.specs.Operators.{left_power}
use Rattle.winnow_expression.specs.Units.{units_left}
use Rattle.winnow_expression_trees.specs.Tree.{Tree, leaf, before, behind, between}
use Rattle.winnow_expression.specs.declared.combinator.places.First.{First}
use Rattle.winnow_expression.specs.declared.combinator.places.First.TheVariants.{Operand}
use Rattle.winnow_expression.specs.declared.combinator.places.First.TheVariants.{
  Prefix as prefix_read,
}
use Rattle.winnow_expression.specs.declared.combinator.places.Next.{Next}
use Rattle.winnow_expression.specs.declared.combinator.places.Next.TheVariants.{Nothing, Postfix}
use Rattle.winnow_expression.specs.declared.combinator.places.Next.TheVariants.{Infix as infix_read}

-- The readings of the parts in their states. A prefix consumes input.
abbrev pub OperandStep : {S W T V F G H : Type 0} → Grammar S W T V F G H → S × W → Input T
    → First V F
    → Input T → Type 0
OperandStep g s i (Operand v) j = g.first s.0 i (Ok (Operand v)) s.0 j
OperandStep g s i (prefix_read p f) j =
    g.first s.0 i (Ok (prefix_read p f)) s.0 j
    × (units_left g.folding.units j < units_left g.folding.units i)

abbrev pub OperatorStep : {S W T V F G H : Type 0} → Grammar S W T V F G H → S × W → Input T
    → Next G H
    → Input T → Type 0
OperatorStep g s i x j = g.next s.1 i (Ok x) s.1 j

-- The tree's operands and operators are read in their order, from place i to place j.
abbrev pub IsTreeOver : {V F G H P : Type 0} → (P → First V F → P → Type 0)
    → (P → Next G H → P → Type 0)
    → Tree V F G H → P → P → Type 0
IsTreeOver first next (leaf v) i j = first i (Operand v) j
IsTreeOver {P = P} first next (before p f r) i j = (k : P) × first i (prefix_read p f) k
    × IsTreeOver first next r k j
IsTreeOver {P = P} first next (behind p g l) i j = (k : P) × IsTreeOver first next l i k
    × next k (Postfix p g) j
IsTreeOver {P = P} first next (between o l r) i j =
    (k : P) × (n : P) × IsTreeOver first next l i k × next k (infix_read o) n
    × IsTreeOver first next r n j

-- the left power of what is read after an operand, if that is an operator
abbrev pub power_of : {G H : Type 0} → Next G H → Option ℤ
power_of Nothing = None
power_of (Postfix p g) = Some p
power_of (infix_read o) = Some (left_power o)

-- what is read next does not reach m
abbrev pub IsBelowPower : {G H : Type 0} → ℤ → Next G H → Type 0
IsBelowPower m x = (p : ℤ) → power_of x ≡ Some p → p <ℤ m
