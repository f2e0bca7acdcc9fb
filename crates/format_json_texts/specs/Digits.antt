-- The integers that digits denote.
use Rattle.std.specs.Prelude.{◌≡◌, ◌≢◌, ◌≤◌, ◌⊎◌, ◌*◌, ◌^◌, ◌%◌, ℕ, List, ◌∷◌}
use Rattle.std.specs.Prelude.{◌++◌}
use Rattle.std.specs.List.{AllByRecursion}
use Rattle.std.specs.Str.Parse.{digits_value_after}
use Rattle.format_json_texts.specs.NumberParts.{IsDigit}

-- `IsReduced n digits zeros`: `n` is `digits` followed by `zeros` zeros, where `digits` does not
-- end in zero, or both are zero
abbrev pub IsReduced : ℕ → ℕ → ℕ → Type 0
IsReduced n digits zeros =
    (n ≡ digits * 10 ^ zeros) × ((digits % 10 ≢ 0) ⊎ ((digits ≡ 0) × (zeros ≡ 0)))

-- n without the zeros at its end does not fit 64 bits
abbrev pub IsTooLong : ℕ → Type 0
IsTooLong n = (digits : ℕ) × (zeros : ℕ) × IsReduced n digits zeros × (2 ^ 64 ≤ digits)

-- The bytes are digits, which make n to total, and then the rest, which begins with none.
pub record ContinuesDigits (n : ℕ) (bytes : List ℕ) (total : ℕ) (rest : List ℕ) : Type 0 where
  pub digits : List ℕ
  pub are_digits : AllByRecursion IsDigit digits
  pub joins : bytes ≡ digits ++ rest
  pub makes : total ≡ digits_value_after 10 n digits
  pub ends : (b : ℕ) (more : List ℕ) → rest ≡ b ∷ more → IsDigit b → ⊥
