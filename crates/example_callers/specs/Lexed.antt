-- Tokens of a lexer, by their grammar.
use Rattle.std.specs.Prelude.{◌↔◌, ⊤, Bool, IsTrue, List, None}
use Rattle.std.specs.Borrow.{Bor}
use Rattle.example_callers.specs.declared.lexed.Token.{Token}
use Rattle.example_callers.specs.declared.lexed.Token.TheVariants.{Minus, Number, Plus}
use Rattle.winnow.specs.Counted.{counted_reading}
use Rattle.winnow.specs.Grammar.{Both, Grammar, Longest, TokenOf}
use Rattle.winnow.specs.Range.{from_to}

-- the token is a plus or a minus
abbrev pub IsSign : Token → Type 0
IsSign Plus = ⊤
IsSign Minus = ⊤
IsSign (Number n) = ⊥

-- the token is a number
abbrev pub IsNumber : Token → Type 0
IsNumber Plus = ⊥
IsNumber Minus = ⊥
IsNumber (Number n) = ⊤

-- `b` is whether the token is in `P`.
abbrev pub IsAmong : (Token → Type 0) → ⊤ → Bor Token → Bool → Type 0
IsAmong P _ token b = IsTrue b ↔ P token.now

-- A sign, and all numbers that follow it, at least one.
abbrev pub SignedNumbers : Grammar Token (Bor Token × Bor (List Token))
SignedNumbers = Both (λ sign numbers. (sign, numbers))
    (TokenOf (λ token. token.now) (IsAmong IsSign) tt)
    (Longest counted_reading (λ token. token.now) (IsAmong IsNumber) tt (from_to 1 None))
