-- Which of its texts is written for a string: the one of RFC 8785 (section 3.2.2.2).
use Rattle.std.specs.Prelude.{◌≡◌, ◌⊎◌, ◌≤◌, ◌<◌, ◌+◌, ℕ, List}
use Rattle.format_json_texts.specs.Strings.{IsUnescaped, StandsFor}
use Rattle.format_parts.specs.Hexadecimal.{IsNumberOf}
use Rattle.format_parts.specs.Words.{Between, For, FourTexts, In, One, Whichever, latter}
use Rattle.grammars.specs.Texts.{BothText, EachText, EitherText, Text}

-- the character after a backslash in an escape: those of RFC 8259 except a slash, which is written
-- as it is
abbrev pub Escapes : ℕ → ℕ → Type 0
Escapes k c = StandsFor k c × (k ≡ 47 → ⊥)

-- a hexadecimal digit with a small letter, and its value
abbrev pub IsLowercaseHexDigit : ℕ → ℕ → Type 0
IsLowercaseHexDigit c d =
    ((48 ≤ c) × (c ≤ 57) × (c ≡ 48 + d)) ⊎ ((97 ≤ c) × (c ≤ 102) × (c ≡ 87 + d))

-- a control character that no other character escapes
abbrev pub IsBare : ℕ → ℕ → Type 0
IsBare u c = (c ≡ u) × (u < 32) × ((k : ℕ) → Escapes k c → ⊥)

-- four hexadecimal digits
abbrev pub LowercaseUnit : Text ℕ ℕ
LowercaseUnit =
    For IsNumberOf (FourTexts (For IsLowercaseHexDigit Whichever)
    (For IsLowercaseHexDigit Whichever)
    (For IsLowercaseHexDigit Whichever) (For IsLowercaseHexDigit Whichever))

-- a backslash, and what escapes the character
abbrev pub CanonicalEscape : Text ℕ ℕ
CanonicalEscape =
    BothText latter (One 92)
    (EitherText (For Escapes Whichever) (BothText latter (One 117) (For IsBare LowercaseUnit)))

-- a character as it is, or escaped where it must be
abbrev pub CanonicalCharacter : Text ℕ ℕ
CanonicalCharacter = EitherText (In IsUnescaped) CanonicalEscape

-- characters between quotes
abbrev pub CanonicalString : Text ℕ (List ℕ)
CanonicalString = Between (One 34) (EachText CanonicalCharacter) (One 34)
