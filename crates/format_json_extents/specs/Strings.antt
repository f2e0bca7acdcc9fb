-- Strings of JSON (RFC 8259, section 7).
use Rattle.std.specs.Prelude.{◌≡◌, ◌≤◌, ◌⊎◌, ℕ, List, ◌∷◌, ◌++◌}
use Rattle.format_json_extents.specs.Texts.{AreTwoBytes, Either, IsByte, Many, Then}
use Rattle.format_json_extents.specs.declared.string.Unit.{Unit}
use Rattle.format_json_extents.specs.declared.string.Unit.TheVariants as units

-- the quote
abbrev pub IsQuote : ℕ → Type 0
IsQuote b = b ≡ 34

-- the backslash
abbrev pub IsBackslash : ℕ → Type 0
IsBackslash b = b ≡ 92

-- A byte that stands for itself: 32 or above, no quote and no backslash.
abbrev pub IsUnescaped : ℕ → Type 0
IsUnescaped b = (32 ≤ b) × (b ≡ 34 → ⊥) × (b ≡ 92 → ⊥)

-- The byte after a backslash: a quote, a backslash, a slash, or one of the letters b, f, n, r, t.
abbrev pub IsEscaped : ℕ → Type 0
IsEscaped b = (b ≡ 34) ⊎ ((b ≡ 92) ⊎ ((b ≡ 47) ⊎ ((b ≡ 98) ⊎ ((b ≡ 102) ⊎ ((b ≡ 110)
    ⊎ ((b ≡ 114) ⊎ (b ≡ 116)))))))

-- the letter u
abbrev pub IsLetterU : ℕ → Type 0
IsLetterU b = b ≡ 117

-- A hexadecimal digit: 0 to 9, A to F, a to f.
abbrev pub IsHexDigit : ℕ → Type 0
IsHexDigit b = ((48 ≤ b) × (b ≤ 57)) ⊎ (((65 ≤ b) × (b ≤ 70)) ⊎ ((97 ≤ b) × (b ≤ 102)))

-- two hexadecimal digits
abbrev pub IsTwoHexDigits : List ℕ → Type 0
IsTwoHexDigits = Then (IsByte IsHexDigit) (IsByte IsHexDigit)

-- the digit D, with which a surrogate begins
abbrev pub IsHexDigitD : ℕ → Type 0
IsHexDigitD b = (b ≡ 68) ⊎ (b ≡ 100)

-- The first two digits of a unit that is not a surrogate: from 0x00 to 0xD7, or from 0xE0 to 0xFF.
abbrev pub BeginNonSurrogate : ℕ → ℕ → Type 0
BeginNonSurrogate a b = IsHexDigit a × IsHexDigit b × (IsHexDigitD a → b ≤ 55)

-- The first two digits of a high surrogate: from 0xD8 to 0xDB.
abbrev pub BeginHighSurrogate : ℕ → ℕ → Type 0
BeginHighSurrogate a b =
    IsHexDigitD a × (((56 ≤ b) × (b ≤ 57)) ⊎ (((65 ≤ b) × (b ≤ 66)) ⊎ ((97 ≤ b) × (b ≤ 98))))

-- The first two digits of a low surrogate: DC to DF.
abbrev pub BeginLowSurrogate : ℕ → ℕ → Type 0
BeginLowSurrogate a b = IsHexDigitD a × (((67 ≤ b) × (b ≤ 70)) ⊎ ((99 ≤ b) × (b ≤ 102)))

-- The first two digits of this unit.
abbrev pub BeginCodeUnit : Unit → ℕ → ℕ → Type 0
BeginCodeUnit units.Only = BeginNonSurrogate
BeginCodeUnit units.High = BeginHighSurrogate
BeginCodeUnit units.Low = BeginLowSurrogate

-- A unit of UTF-16 in four hexadecimal digits, the first two in `P`.
abbrev pub IsCodeUnit : (ℕ → ℕ → Type 0) → List ℕ → Type 0
IsCodeUnit P = Then (AreTwoBytes P) IsTwoHexDigits

-- A high surrogate, and a low one after a backslash and u.
abbrev pub IsSurrogatePair : List ℕ → Type 0
IsSurrogatePair =
    Then (IsCodeUnit BeginHighSurrogate)
    (Then (IsByte IsBackslash) (Then (IsByte IsLetterU) (IsCodeUnit BeginLowSurrogate)))

-- The digits of a character: those of its only unit, or of both.
abbrev pub IsCharacterCode : List ℕ → Type 0
IsCharacterCode = Either (IsCodeUnit BeginNonSurrogate) IsSurrogatePair

-- The bytes after a backslash: one byte, or `u` and the digits of a character.
abbrev pub IsEscape : List ℕ → Type 0
IsEscape = Either (IsByte IsEscaped) (Then (IsByte IsLetterU) IsCharacterCode)

-- An unescaped byte, or a backslash and the bytes that it escapes.
abbrev pub IsPiece : List ℕ → Type 0
IsPiece = Either (IsByte IsUnescaped) (Then (IsByte IsBackslash) IsEscape)

-- The bytes after the first quote: pieces, and the last quote.
abbrev pub IsStringTail : List ℕ → Type 0
IsStringTail = Then (Many IsPiece) (IsByte IsQuote)

-- a string
abbrev pub IsString : List ℕ → Type 0
IsString = Then (IsByte IsQuote) IsStringTail

-- The bytes are this text of pieces between quotes, and then the rest.
pub record IsInQuotes (text bytes rest : List ℕ) : Type 0 where
  pub is_text : Many IsPiece text
  pub splits : bytes ≡ 34 ∷ (text ++ 34 ∷ rest)
