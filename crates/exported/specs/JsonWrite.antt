-- Strings of JSON that are written: those of RFC 8785 (section 3.2.2.2).
use Rattle.std.specs.Prelude.{◌==◌, ◌+◌, ◌/◌, ◌%◌, if◌then◌else◌, ℕ, List, [], ◌∷◌}
use Rattle.std.specs.Prelude.{◌++◌, nat_lt}

-- the byte that denotes another one after a backslash, if it must be escaped; 0 if there is none
abbrev pub letter_of : ℕ → ℕ
letter_of b =
    if b == 34 then 34 else if b == 92 then 92 else if b == 8 then 98 else if b == 12 then 102 else
    if b == 10 then 110 else if b == 13 then 114 else if b == 9 then 116 else 0

-- the hexadecimal digit of a value, with a small letter
abbrev pub digit_of : ℕ → ℕ
digit_of d = if nat_lt d 10 then 48 + d else 87 + d

-- the escape of a byte with four digits
abbrev pub four_digits : ℕ → List ℕ
four_digits b = 92 ∷ 117 ∷ 48 ∷ 48 ∷ digit_of (b / 16) ∷ digit_of (b % 16) ∷ []

-- A byte as it is, or its escape if it must be escaped: the short one, if there is one.
abbrev pub byte_text : ℕ → List ℕ
byte_text b =
    if letter_of b == 0 then (if nat_lt b 32 then four_digits b else b ∷ []) else
    92 ∷ letter_of b ∷ []

-- the consecutive texts of bytes
abbrev pub content_of : List ℕ → List ℕ
content_of [] = []
content_of (b ∷ more) = byte_text b ++ content_of more

-- the string of bytes, in quotes
abbrev pub string_of : List ℕ → List ℕ
string_of bytes = 34 ∷ (content_of bytes ++ 34 ∷ [])
