-- The line of one pair.
use Rattle.std.specs.Prelude.{◌≡◌, ◌≢◌, ℕ, ◌<◌, ◌≤◌, List, [], ◌∷◌, ◌++◌, length, All}
use Rattle.std.specs.Prelude.{◌⊎◌}
use Rattle.format_calculator.specs.declared.fault.ReadError.{ReadError}
use Rattle.format_calculator.specs.declared.fault.ReadError.TheVariants.{Invalid, NoMemory}

-- an ASCII letter or digit
abbrev pub IsKeyByte : ℕ → Type 0
IsKeyByte b = ((48 ≤ b) × (b ≤ 57)) ⊎ (((65 ≤ b) × (b ≤ 90)) ⊎ ((97 ≤ b) × (b ≤ 122)))

-- The end of a line: nothing, or one line feed.
abbrev pub IsLineEnd : List ℕ → Type 0
IsLineEnd end = (end ≡ []) ⊎ (end ≡ 10 ∷ [])

-- `IsPairLine line key value`: `line` is a key of one or more letters and digits, `=`, a value
-- without line feeds, and at most one line feed.
abbrev pub IsPairLine : List ℕ → List ℕ → List ℕ → Type 0
IsPairLine line key value =
    (end : List ℕ) × (0 < length key) × All IsKeyByte key × All (λ b. b ≢ 10) value
    × IsLineEnd end × (line ≡ key ++ (61 ∷ (value ++ end)))

-- Some line of a pair begins with these bytes.
abbrev pub BeginsPairLine : List ℕ → Type 0
BeginsPairLine front =
    (more : List ℕ) × (key : List ℕ) × (value : List ℕ) × All (λ b. b < 256) more
    × IsPairLine (front ++ more) key value

-- `IsRefusedPair input n`: `input` is not a pair's line, and `n` is the length of its longest
-- prefix that such a line can start with.
pub record IsRefusedPair (input : List ℕ) (n : ℕ) : Type 0 where
  pub no_line : (key value : List ℕ) → IsPairLine input key value → ⊥
  pub front : List ℕ
  pub rest : List ℕ
  pub splits : input ≡ front ++ rest
  pub begins : BeginsPairLine front
  pub at : n ≡ length front
  pub longest : (other more : List ℕ) → input ≡ other ++ more → BeginsPairLine other
      → length other ≤ n

-- The errors of the reader of a pair, which does not allocate.
abbrev pub IsPairFault : List ℕ → ReadError → Type 0
IsPairFault input (Invalid n) = IsRefusedPair input n
IsPairFault input NoMemory = ⊥
