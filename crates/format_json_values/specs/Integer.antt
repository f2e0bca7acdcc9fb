-- The integer that a number is written as.
use Rattle.std.specs.Prelude.{◌≡◌, ◌⊎◌, ℤ, Option, None, ok_or, string_bytes}
use Rattle.std.specs.Int.{w64}
use Rattle.std.specs.Str.Parse.{ParsesSigned}
use Rattle.std.specs.declared.string.String.{String}
use Rattle.format_json_texts.specs.declared.value.Value.{Value}
use Rattle.format_json_texts.specs.declared.value.Value as values

-- `HasInteger v n`: `n` is the integer that the digits of a number are in base ten, with or without
-- a sign, if its text has nothing else and it fits 64 bits. A value that is not a number has no
-- integer.
abbrev pub HasInteger : {A : Type 0} → Value A → Option ℤ → Type 0
HasInteger {A} v n =
    ((text : String A) × (v ≡ values.Number text)
    × ParsesSigned w64 10 (string_bytes text) (ok_or n text))
    ⊎ (((text : String A) → v ≡ values.Number text → ⊥) × (n ≡ None))
