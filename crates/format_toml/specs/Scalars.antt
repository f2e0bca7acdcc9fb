-- The grammars of values that have no others in them are those of what is written.
use Rattle.std.specs.Prelude.{◌≡◌, ◌⊎◌, ℕ, List}
use Rattle.format_toml.specs.Times.{NoTime}
use Rattle.format_toml.specs.Toml.{IsUnquoted}
use Rattle.grammars.specs.Texts.{NotFirst}

-- ---- what continues a word or a number

-- letters, digits, and + - . : _, and quotation marks
abbrev pub ContinuesScalar : ℕ → Type 0
ContinuesScalar c = IsUnquoted c ⊎ ((c ≡ 34) ⊎ (c ≡ 39))

-- `Goes rest`: the input after a value does not start with one of these, nor with a space and a
-- time, which would continue a date.
abbrev pub Goes : List ℕ → Type 0
Goes rest = NotFirst ContinuesScalar rest × NoTime rest
