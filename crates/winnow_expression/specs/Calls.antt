-- Calls, and the operators that interrupt them.
use Rattle.std.specs.Prelude.{◌≡◌, ◌+ℤ◌, ℕ, ℤ, pos, Option, Some, None, List, [], ◌∷◌, ◌++◌, map}
use Rattle.parser_definitions.specs.Expression.{Call, call_at}
use Rattle.winnow_expression.specs.declared.combinator.calls.Call.{Call as KeptCall}
use Rattle.winnow_expression.specs.declared.combinator.calls.Open.{Open as KeptOpen}
use Rattle.winnow_expression.specs.declared.combinator.calls.Operator.{Operator}
use Rattle.winnow_expression.specs.declared.combinator.calls.Refuses.{Refuses}
use Rattle.winnow_expression.specs.declared.combinator.calls.Refuses.TheVariants.{Nothing, Neither}
use Rattle.winnow_expression.specs.declared.combinator.calls.Refuses.TheVariants.{All}

-- An operator whose right operand is read next, and the call that it interrupts.
pub record Open (V F H : Type 0) : Type 0 where
  pub operator : Operator V F H
  pub call : Call

-- The present call, and the open operators above it, the last one last.
pub record Calls (V F H : Type 0) : Type 0 where
  pub present : Call
  pub opened : List (Open V F H)

-- the greatest power
abbrev pub greatest : ℤ
greatest = pos 9223372036854775807

-- the least power that is required: one above the greatest for `None`
abbrev pub asked : Option ℤ → ℤ
asked (Some power) = power
asked None = greatest +ℤ pos 1

-- The calls and the open operators that the machine stores, as those of the specification.
abbrev pub least_of : ℤ → Refuses → ℤ
least_of least Nothing = least
least_of least (Neither power) = least
least_of least All = greatest +ℤ pos 1

abbrev pub neither_of : Refuses → Option ℤ
neither_of Nothing = None
neither_of (Neither power) = Some power
neither_of All = None

abbrev pub call_of : KeptCall → Call
call_of call = record {
  least = least_of call.least call.refuses;
  began = call.began;
  turn = call.turn;
  neither = neither_of call.refuses;
}

abbrev pub open_of : {V F H : Type 0} → KeptOpen V F H → Open V F H
open_of x = record { operator = x.operator; call = call_of x.call }

abbrev pub opens_of : {V F H : Type 0} → List (KeptOpen V F H) → List (Open V F H)
opens_of xs = map open_of xs

abbrev pub calls_of : {V F H : Type 0} → KeptCall → List (KeptOpen V F H) → Calls V F H
calls_of call xs = record { present = call_of call; opened = opens_of xs }

-- a call after an infix whose turn began where `units` units remained
abbrev pub with_infix : Call → ℕ → Option ℤ → Call
with_infix call units neither = record call { turn = units; neither = neither }

-- An operator is opened, and a call of a least power begins.
abbrev pub Interrupts : {V F H : Type 0} → Calls V F H → Open V F H → ℤ → ℕ
    → Calls V F H → Type 0
Interrupts before x least units after =
    (after.opened ≡ before.opened ++ x ∷ []) × (after.present ≡ call_at least units)
