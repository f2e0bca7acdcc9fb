-- The bytes of which heads of HTTP/1.1 are made (RFC 9110, section 5, and RFC 9112).
use Rattle.std.specs.Prelude.{◌≡◌, ◌≤◌, ◌⊎◌, ℕ, List, [], ◌∷◌}

-- From one byte to another.
abbrev pub IsBetween : ℕ → ℕ → ℕ → Type 0
IsBetween first last b = (first ≤ b) × (b ≤ last)

-- A byte of a token, as a name and a method are (RFC 9110, section 5.6.2).
abbrev pub IsTokenByte : ℕ → Type 0
IsTokenByte b =
    -- a digit, or a letter, or one of ^ _ and `
    IsBetween 48 57 b ⊎ (IsBetween 65 90 b ⊎ (IsBetween 94 122 b
    -- one of ! # $ % & and ', one of * and +, one of - and ., one of | and ~
    ⊎ ((b ≡ 33) ⊎ (IsBetween 35 39 b ⊎ (IsBetween 42 43 b ⊎ (IsBetween 45 46 b
    ⊎ ((b ≡ 124) ⊎ (b ≡ 126))))))))

-- A space or a tab.
abbrev pub IsWhite : ℕ → Type 0
IsWhite b = (b ≡ 32) ⊎ (b ≡ 9)

-- A byte of a value: visible, whitespace, or of 128 and above; no control but the tab.
abbrev pub IsValueByte : ℕ → Type 0
IsValueByte b = ((32 ≤ b) × (b ≡ 127 → ⊥)) ⊎ (b ≡ 9)

-- A visible byte of ASCII, as a target is made of: no space.
abbrev pub IsVisible : ℕ → Type 0
IsVisible b = IsBetween 33 126 b

-- The byte of a decimal digit.
abbrev pub IsDigit : ℕ → Type 0
IsDigit b = IsBetween 48 57 b

-- a carriage return and a line feed
abbrev pub line_end : List ℕ
line_end = 13 ∷ 10 ∷ []
