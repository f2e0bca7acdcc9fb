-- Boolean formulas: which bytes are operands and operators, and what operators compute.
use Rattle.std.specs.Prelude.{◌≡◌, ℕ, pos, Bool, true, false, List, ◌∷◌, Option, Some, None}
use Rattle.std.specs.Prelude.{nat_eq, if◌then◌else◌}
use Rattle.example_booleans.specs.declared.booleans.Logic.{Logic}
use Rattle.example_booleans.specs.declared.booleans.Logic.TheVariants.{And, Or, Same}
use Rattle.example_booleans.specs.declared.booleans.Not.{Not}
use Rattle.grammars.specs.Grammar.{Both, Grammar}
use Rattle.streams.specs.Kind.{Kind}
use Rattle.stream_errors.specs.Form.{marked_kind}
use Rattle.stream_errors.specs.declared.empty.EmptyError.{EmptyError}
use Rattle.winnow_expression.specs.declared.combinator.operators.Infix.{Infix}
use Rattle.winnow_expression.specs.declared.combinator.operators.Infix.TheVariants.{Left, Neither}
use Rattle.winnow_expression.specs.declared.combinator.operators.Postfix.{Postfix}
use Rattle.winnow_expression.specs.declared.combinator.operators.Prefix.{Prefix}
use Rattle.winnow_expression_trees.specs.Failure.{ReadsTo}
use Rattle.winnow_expression_trees.specs.Items.{FirstItems, Items, NextItems, NoItem}
use Rattle.winnow_expression_trees.specs.Items.Grammar.{ReadsTree}
pub mod Laws

-- One byte that is read so.
abbrev pub ByteItem : {O : Type 0} → (ℕ → Option O) → Items ℕ O
ByteItem meant tokens o rest = (b : ℕ) × (tokens ≡ b ∷ rest) × (meant b ≡ Some o)

-- `t` and `f`
abbrev pub operand_at : ℕ → Option Bool
operand_at b = if nat_eq b 116 then Some true else (if nat_eq b 102 then Some false else None)

-- `!` before an operand, of power 7
abbrev pub prefix_at : ℕ → Option (Prefix Not)
prefix_at b = if nat_eq b 33 then Some (pos 7, Not.Not) else None

-- `'` after an operand, of power 9
abbrev pub postfix_at : ℕ → Option (Postfix Not)
postfix_at b = if nat_eq b 39 then Some (pos 9, Not.Not) else None

-- `&` of power 5 and `|` of power 3, joined from the left, and `=` of power 1, not joined
abbrev pub infix_at : ℕ → Option (Infix Logic)
infix_at b = if nat_eq b 38 then Some (Left (pos 5) And)
    else (if nat_eq b 124 then Some (Left (pos 3) Or)
    else (if nat_eq b 61 then Some (Neither (pos 1) Same) else None))

-- what the operators compute
abbrev pub not_value : Not → Bool → Bool → Type 0
not_value f v x = x ≡ (if v then false else true)

abbrev pub logic_value : Logic → Bool → Bool → Bool → Type 0
logic_value And v w x = x ≡ (if v then w else false)
logic_value Or v w x = x ≡ (if v then true else w)
logic_value Same v w x = x ≡ (if v then w else (if w then false else true))

-- `LacksOperand start place`: parsing a formula from `start` reaches `place`, where an operand is
-- expected and neither an operand nor a prefix operator begins.
abbrev pub LacksOperand : List ℕ → List ℕ → Type 0
LacksOperand start place =
    ReadsTo (FirstItems (ByteItem operand_at) (ByteItem prefix_at))
    (NextItems (ByteItem postfix_at) (ByteItem infix_at)) start true place
    × NoItem (ByteItem operand_at) place × NoItem (ByteItem prefix_at) place

-- the kind of the error of a parser that backtracks, or is out of memory
abbrev pub empty_kind : EmptyError → Kind
empty_kind e = marked_kind e.is_memory

-- A formula: the truth value of the only tree of the bytes that respects precedence.
abbrev pub IsFormula : Grammar ℕ Bool
IsFormula = ReadsTree (ByteItem operand_at) (ByteItem prefix_at) (ByteItem postfix_at)
    (ByteItem infix_at) not_value not_value logic_value (pos 0)

-- A formula, and after it what ends it.
abbrev pub IsEnded : {T O : Type 0} → Grammar T O → Grammar T ℕ → Grammar T O
IsEnded formula end = Both (λ value o. value) formula end
