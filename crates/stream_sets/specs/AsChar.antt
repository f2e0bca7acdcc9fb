-- Classes of characters, by their numbers, for ASCII only.
use Rattle.std.specs.Prelude.{◌≡◌, ◌≤◌, ℕ, ◌⊎◌}

-- a letter from A to Z or from a to z
abbrev pub IsAlpha : ℕ → Type 0
IsAlpha c = ((65 ≤ c) × (c ≤ 90)) ⊎ ((97 ≤ c) × (c ≤ 122))

-- a digit from 0 to 9
abbrev pub IsDecDigit : ℕ → Type 0
IsDecDigit c = (48 ≤ c) × (c ≤ 57)

-- such a letter or digit
abbrev pub IsAlphanum : ℕ → Type 0
IsAlphanum c = IsAlpha c ⊎ IsDecDigit c

-- a digit, or a letter from A to F or from a to f
abbrev pub IsHexDigit : ℕ → Type 0
IsHexDigit c = IsDecDigit c ⊎ (((65 ≤ c) × (c ≤ 70)) ⊎ ((97 ≤ c) × (c ≤ 102)))

-- a digit from 0 to 7
abbrev pub IsOctDigit : ℕ → Type 0
IsOctDigit c = (48 ≤ c) × (c ≤ 55)

-- a space or a tab
abbrev pub IsSpace : ℕ → Type 0
IsSpace c = (c ≡ 32) ⊎ (c ≡ 9)

-- a line feed
abbrev pub IsNewline : ℕ → Type 0
IsNewline c = c ≡ 10

-- a space, a tab, a carriage return or a line feed
abbrev pub IsMultispace : ℕ → Type 0
IsMultispace c = IsSpace c ⊎ ((c ≡ 13) ⊎ (c ≡ 10))
