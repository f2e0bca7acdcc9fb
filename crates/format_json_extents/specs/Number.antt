-- Numbers of JSON (RFC 8259, section 6).
use Rattle.std.specs.Prelude.{◌≡◌, ◌≤◌, ◌⊎◌, ℕ, List}
use Rattle.std.specs.List.{All}
use Rattle.format_json_extents.specs.Texts.{Either, IsByte, Maybe, Then}

-- a digit
abbrev pub IsDigit : ℕ → Type 0
IsDigit b = (48 ≤ b) × (b ≤ 57)

-- one digit or several
abbrev pub IsDigits : List ℕ → Type 0
IsDigits = Then (IsByte IsDigit) (All IsDigit)

-- the minus
abbrev pub IsMinus : ℕ → Type 0
IsMinus b = b ≡ 45

-- the digit 0
abbrev pub IsZero : ℕ → Type 0
IsZero b = b ≡ 48

-- a digit from 1 to 9
abbrev pub IsNonzeroDigit : ℕ → Type 0
IsNonzeroDigit b = (49 ≤ b) × (b ≤ 57)

-- the point
abbrev pub IsDecimalPoint : ℕ → Type 0
IsDecimalPoint b = b ≡ 46

-- the letter E or e
abbrev pub IsExponentLetter : ℕ → Type 0
IsExponentLetter b = (b ≡ 69) ⊎ (b ≡ 101)

-- a plus or a minus
abbrev pub IsSign : ℕ → Type 0
IsSign b = (b ≡ 43) ⊎ (b ≡ 45)

-- Digits with no zero before others.
abbrev pub IsIntegerPart : List ℕ → Type 0
IsIntegerPart = Either (IsByte IsZero) (Then (IsByte IsNonzeroDigit) (All IsDigit))

-- a point and digits
abbrev pub IsFraction : List ℕ → Type 0
IsFraction = Then (IsByte IsDecimalPoint) IsDigits

-- the letter E, a sign or none, and digits
abbrev pub IsExponent : List ℕ → Type 0
IsExponent = Then (IsByte IsExponentLetter) (Then (Maybe (IsByte IsSign)) IsDigits)

-- a number
abbrev pub IsNumber : List ℕ → Type 0
IsNumber =
    Then (Maybe (IsByte IsMinus)) (Then IsIntegerPart (Then (Maybe IsFraction) (Maybe IsExponent)))

-- a byte of numbers: a digit, a point, an E or a sign
abbrev pub IsByteOfNumber : ℕ → Type 0
IsByteOfNumber b = IsDigit b ⊎ (IsDecimalPoint b ⊎ (IsExponentLetter b ⊎ IsSign b))

-- A byte that can extend a number to a longer one.
abbrev pub ExtendsNumber : ℕ → Type 0
ExtendsNumber b = IsDigit b ⊎ (IsDecimalPoint b ⊎ IsExponentLetter b)
