-- The statements of the laws of integers.
use Rattle.std.specs.Prelude.{◌≡◌, ◌↔◌, ⊤, ℕ, List, ◌++◌, length, reverse}
use Rattle.parser_definitions.specs.Left.{End, Left}
use Rattle.parser_definitions.specs.Outcome.{Does, Outcome, Setting}

-- an input at the same position, with other remaining tokens
abbrev pub with_tokens : {T : Type 0} → List T → Left T → Left T
with_tokens tokens w = record w { tokens = tokens }

-- `ReadsReversed width one other`: on an input that starts with `width` bytes, `one` has the
-- outcomes that `other` has for these bytes in reverse order: the same result and rest.
abbrev pub ReadsReversed : {O : Type 0} → ℕ → Does ⊤ ℕ O → Does ⊤ ℕ O → Type 0
ReadsReversed {O} width one other =
    (at : Setting) (w : Left ℕ) (bytes rest : List ℕ) (x : Outcome (End ⊤ ℕ) O)
    → w.tokens ≡ bytes ++ rest → length bytes ≡ width
    → one at tt w x ↔ other at tt (with_tokens (reverse bytes ++ rest) w) x
