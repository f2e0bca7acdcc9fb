-- The grammar of values without quotes is that of what is written; and the results for a text.
use Rattle.std.specs.Prelude.{ℕ, List}
use Rattle.std.specs.Prelude.{◌≡◌, ◌⊎◌, Err, Ok, Result}
use Rattle.format_parts.specs.Words.{For}
use Rattle.format_toml.specs.Floats.{FloatText}
use Rattle.format_toml.specs.Toml.{MeansFloat}
use Rattle.format_toml_tree.specs.declared.value.Value.{Value}
use Rattle.grammars.specs.Texts.{Text}
use Rattle.format_toml_tree.specs.declared.value.Value as values
use Rattle.streams.specs.Kind.{Kind, backtrack, memory}

-- ---- of a text

-- A value that all of the bytes encode. Or an error, if the bytes do not encode a value, or if
-- memory allocation fails.
unfoldable pub IsAnswer : {A E : Type 0} → Text ℕ (Value A) → (E → Kind) → List ℕ
    → Result (Value A) E → Type 0
IsAnswer text kind bytes (Ok v) = text v bytes
IsAnswer {A} text kind bytes (Err e) =
    (kind e ≡ memory) ⊎ ((kind e ≡ backtrack) × ((v : Value A) → text v bytes → ⊥))

-- The float that the bytes are, or an out-of-memory error.
unfoldable pub IsFloatAnswer : {A E : Type 0} → (E → Kind) → List ℕ → Result (Value A) E → Type 0
IsFloatAnswer kind bytes (Ok v) = For MeansFloat FloatText v bytes
IsFloatAnswer kind bytes (Err e) = kind e ≡ memory
