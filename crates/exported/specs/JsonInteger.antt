-- Numbers of JSON as callers see them.
use Rattle.std.specs.Prelude.{ℕ, ℤ, List, Option, None, Some}
use Rattle.format_json_extents.specs.Integer.{IsInteger, IsNatural}
use Rattle.format_json_extents.specs.Number.{IsNumber}
use Rattle.format_json_extents.specs.Texts.{IsLongest}

-- `StartsWithInteger is bytes n`: `bytes` starts with a number, and `n` is the integer of the
-- longest
-- such number, or `None`.
abbrev pub StartsWithInteger : {A : Type 0} → (List ℕ → Option A → Type 0) → List ℕ → Option A
    → Type 0
StartsWithInteger is bytes n =
    (text rest : List ℕ) × IsLongest IsNumber text bytes rest × is text n

-- of 64 bits with a sign
abbrev pub ShowsInteger : List ℕ → ℤ → Type 0
ShowsInteger bytes n = StartsWithInteger IsInteger bytes (Some n)

abbrev pub ShowsNoInteger : List ℕ → Type 0
ShowsNoInteger bytes = StartsWithInteger IsInteger bytes None

-- of 64 bits without one
abbrev pub ShowsNatural : List ℕ → ℕ → Type 0
ShowsNatural bytes n = StartsWithInteger IsNatural bytes (Some n)

abbrev pub ShowsNoNatural : List ℕ → Type 0
ShowsNoNatural bytes = StartsWithInteger IsNatural bytes None
