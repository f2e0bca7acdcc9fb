-- Trees of operators over operands.
use Rattle.std.specs.Prelude.{ℤ, Option, None}
use Rattle.winnow_expression.specs.Operators.{neither_power}
use Rattle.winnow_expression.specs.declared.combinator.operators.Infix.{Infix}

-- A leaf, a prefix over its right operand, a postfix over its left operand, an infix over both.
pub data Tree (V F G H : Type 0) : Type 0 where
  leaf : V → Tree V F G H
  before : ℤ → F → Tree V F G H → Tree V F G H
  behind : ℤ → G → Tree V F G H → Tree V F G H
  between : Infix H → Tree V F G H → Tree V F G H → Tree V F G H

-- the power of the topmost infix on the left edge, if that is a neither
abbrev pub top_neither : {V F G H : Type 0} → Tree V F G H → Option ℤ
top_neither (leaf v) = None
top_neither (before p f r) = None
top_neither (behind p g l) = top_neither l
top_neither (between o l r) = neither_power o
