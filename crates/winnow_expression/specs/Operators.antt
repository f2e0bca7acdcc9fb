-- Operators: their powers and their folds, and operators as parsers of themselves.
use Rattle.std.specs.Prelude.{◌≡◌, ℤ, pos, ◌+ℤ◌, Option, Some, None}
use Rattle.winnow_expression.specs.declared.combinator.operators.Infix.{Infix}
use Rattle.winnow_expression.specs.declared.combinator.operators.Infix.TheVariants.{Left, Right}
use Rattle.winnow_expression.specs.declared.combinator.operators.Infix.TheVariants.{Neither}
use Rattle.winnow_expression.specs.declared.combinator.operators.Postfix.{Postfix}
use Rattle.winnow_expression.specs.declared.combinator.operators.Prefix.{Prefix}

-- how strong an infix binds its left operand
abbrev pub left_power : {F : Type 0} → Infix F → ℤ
left_power (Left p f) = p
left_power (Right p f) = p
left_power (Neither p f) = p

-- the least power in its right operand
abbrev pub right_power : {F : Type 0} → Infix F → ℤ
right_power (Left p f) = p +ℤ pos 1
right_power (Right p f) = p
right_power (Neither p f) = p +ℤ pos 1

-- its power, if it is a neither
abbrev pub neither_power : {F : Type 0} → Infix F → Option ℤ
neither_power (Left p f) = None
neither_power (Right p f) = None
neither_power (Neither p f) = Some p

abbrev pub fold_of : {F : Type 0} → Infix F → F
fold_of (Left p f) = f
fold_of (Right p f) = f
fold_of (Neither p f) = f

-- the infix of the same side and power with another fold
abbrev pub with_fold : {F : Type 0} → Infix F → F → Infix F
with_fold (Left p f) g = Left p g
with_fold (Right p f) g = Right p g
with_fold (Neither p f) g = Neither p g

-- the same power, and a clone of the fold
abbrev pub IsPrefixClone : {F : Type 0} → (F → F → Type 0) → Prefix F → Prefix F → Type 0
IsPrefixClone IsClone p q = (q.0 ≡ p.0) × IsClone p.1 q.1

abbrev pub IsPostfixClone : {F : Type 0} → (F → F → Type 0) → Postfix F → Postfix F → Type 0
IsPostfixClone IsClone p q = (q.0 ≡ p.0) × IsClone p.1 q.1

-- the same side and power, and a clone of the fold
abbrev pub IsInfixClone : {F : Type 0} → (F → F → Type 0) → Infix F → Infix F → Type 0
IsInfixClone IsClone o q = (q ≡ with_fold o (fold_of q)) × IsClone (fold_of o) (fold_of q)
