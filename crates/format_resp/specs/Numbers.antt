-- Integers and sizes, and numbers of RESP3 that are kept as text, doubles and big numbers, as the
-- Redis serialization protocol specification has them.
use Rattle.std.specs.Prelude.{◌≡◌, ◌==◌, ◌⊎◌, ◌<◌, ◌^◌, ⊤, Bool, true, false, ℕ, ℤ, pos, neg_ℤ}
use Rattle.std.specs.Prelude.{List, [], ◌∷◌, ◌++◌, length, Option, None, Some, FitsSigned}
use Rattle.std.specs.Prelude.{if◌then◌else◌}
use Rattle.std.specs.Fmt.{decimal, signed_decimal}
use Rattle.std.specs.Int.{w64}
use Rattle.std.specs.List.{AllByRecursion}
use Rattle.stream_sets.specs.AsChar.{IsDecDigit}
use Rattle.parser_definitions.specs.Digits.{value_in}
use Rattle.grammars.specs.Texts.{NotFirst}

-- one digit or more
abbrev pub AreDigits : List ℕ → Type 0
AreDigits digits = AllByRecursion IsDecDigit digits × (0 < length digits)

-- the digits of a number, possibly with leading zeros
abbrev pub DigitsText : ℕ → List ℕ → Type 0
DigitsText n tokens = AreDigits tokens × (value_in 10 tokens ≡ n)

-- whether a minus is first
abbrev pub is_negative : List ℕ → Bool
is_negative [] = false
is_negative (b ∷ bs) = b == 45

-- the rest after a plus or a minus, or all bytes
abbrev pub unsigned : List ℕ → List ℕ
unsigned [] = []
unsigned (b ∷ bs) = if b == 43 then bs else if b == 45 then bs else b ∷ bs

abbrev pub signed : Bool → ℕ → ℤ
signed true m = neg_ℤ (pos m)
signed false m = pos m

-- the digits of an integer of 64 bits
abbrev pub UnsignedText : Bool → ℤ → List ℕ → Type 0
UnsignedText negative n digits =
    (m : ℕ) × DigitsText m digits × (n ≡ signed negative m) × FitsSigned w64 n

-- an integer of 64 bits: [<+|->]<value>
unfoldable pub SignedText : ℤ → List ℕ → Type 0
SignedText n tokens = UnsignedText (is_negative tokens) n (unsigned tokens)

-- a size: digits, of a number that an integer of 64 bits can be; -1 for null
abbrev pub SizeLine : Option ℕ → List ℕ → Type 0
SizeLine None line = line ≡ 45 ∷ 49 ∷ []
SizeLine (Some n) line = DigitsText n line × (n < 2 ^ 63)

-- the same as they are written: no plus sign, and no leading zeros
abbrev pub ShortInteger : ℤ → List ℕ → Type 0
ShortInteger n tokens = FitsSigned w64 n × (tokens ≡ signed_decimal n)

abbrev pub ShortSize : Option ℕ → List ℕ → Type 0
ShortSize None line = line ≡ 45 ∷ 49 ∷ []
ShortSize (Some n) line = (n < 2 ^ 63) × (line ≡ decimal n)

-- [<+|->]<number>
unfoldable pub IsBigNumber : List ℕ → Type 0
IsBigNumber tokens = AreDigits (unsigned tokens)

-- [<E|e>[sign]<exponent>]
unfoldable pub IsExponent : List ℕ → Type 0
IsExponent [] = ⊤
IsExponent (letter ∷ power) = ((letter ≡ 69) ⊎ (letter ≡ 101)) × IsBigNumber power

-- [.<fractional>][<E|e>[sign]<exponent>]
unfoldable pub IsTail : List ℕ → Type 0
IsTail tokens =
    IsExponent tokens
    ⊎ ((digits : List ℕ) × (exponent : List ℕ) × AreDigits digits × IsExponent exponent
    × (tokens ≡ 46 ∷ (digits ++ exponent)))

-- [<+|->]<integral>[.<fractional>][<E|e>[sign]<exponent>]
unfoldable pub IsDecimal : List ℕ → Type 0
IsDecimal tokens =
    (whole : List ℕ) × (tail : List ℕ) × AreDigits whole × IsTail tail
    × (unsigned tokens ≡ whole ++ tail)

-- inf, -inf, nan
abbrev pub inf_word : List ℕ
inf_word = 105 ∷ 110 ∷ 102 ∷ []

abbrev pub nan_word : List ℕ
nan_word = 110 ∷ 97 ∷ 110 ∷ []

-- a double; servers write -nan too
abbrev pub IsDouble : List ℕ → Type 0
IsDouble tokens =
    (tokens ≡ inf_word) ⊎ ((tokens ≡ 45 ∷ inf_word) ⊎ ((tokens ≡ nan_word)
    ⊎ ((tokens ≡ 45 ∷ nan_word) ⊎ IsDecimal tokens)))

-- The tokens start with digits, and the rest does not start with a digit.
abbrev pub RestAfterDigits : List ℕ → List ℕ → Type 0
RestAfterDigits tokens rest =
    (front : List ℕ) × AreDigits front × (tokens ≡ front ++ rest) × NotFirst IsDecDigit rest
