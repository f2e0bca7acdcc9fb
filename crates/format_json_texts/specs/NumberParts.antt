-- Numbers of JSON (RFC 8259, section 6), and their values.
use Rattle.std.specs.Prelude.{◌≡◌, ◌<◌, ◌≤◌, ◌⊎◌, ◌-ℤ◌, ℕ, ℤ, pos, neg_ℤ, Bool, cond, List, []}
use Rattle.std.specs.Prelude.{◌∷◌, ◌++◌, length}
use Rattle.std.specs.List.{AllByRecursion}
use Rattle.std.specs.Str.Parse.{digits_value, signed_digits_value}

-- a digit
abbrev pub IsDigit : ℕ → Type 0
IsDigit b = (48 ≤ b) × (b ≤ 57)

-- 1*DIGIT
abbrev pub AreDigits : List ℕ → Type 0
AreDigits text = (0 < length text) × AllByRecursion IsDigit text

-- [ minus ]
abbrev pub sign_text : Bool → List ℕ
sign_text negative = cond negative (45 ∷ []) []

-- int = zero / ( digit1-9 *DIGIT )
abbrev pub IsIntegerPart : List ℕ → Type 0
IsIntegerPart text = AreDigits text × ((more : List ℕ) → text ≡ 48 ∷ more → more ≡ [])

-- [ frac ], of these digits: frac = decimal-point 1*DIGIT
abbrev pub IsFraction : List ℕ → List ℕ → Type 0
IsFraction text digits =
    ((text ≡ []) × (digits ≡ [])) ⊎ ((text ≡ 46 ∷ digits) × AreDigits digits)

-- exp = e [ minus / plus ] 1*DIGIT, and the power of ten that it says
pub record IsPower (text : List ℕ) (power : ℤ) : Type 0 where
  pub letter : ℕ
  pub sign : List ℕ
  pub digits : List ℕ
  pub is_letter : (letter ≡ 101) ⊎ (letter ≡ 69)
  pub is_sign : (sign ≡ []) ⊎ ((sign ≡ 43 ∷ []) ⊎ (sign ≡ 45 ∷ []))
  pub are_digits : AreDigits digits
  pub joins : text ≡ letter ∷ sign ++ digits
  pub says : power ≡ signed_digits_value 10 (sign ++ digits)

-- [ exp ]: where there is none, the power is that of one
abbrev pub IsExponent : List ℕ → ℤ → Type 0
IsExponent text power = ((text ≡ []) × (power ≡ pos 0)) ⊎ IsPower text power

-- The parts of a number: the digits before and after the decimal point, and the power of ten.
pub record Number : Type 0 where
  pub negative : Bool
  pub whole : List ℕ
  pub fraction : List ℕ
  pub power : ℤ

-- number = [ minus ] int [ frac ] [ exp ]
pub record IsWritten (text : List ℕ) (number : Number) : Type 0 where
  pub point : List ℕ
  pub exponent : List ℕ
  pub is_whole : IsIntegerPart number.whole
  pub is_fraction : IsFraction point number.fraction
  pub is_exponent : IsExponent exponent number.power
  pub joins : text ≡ sign_text number.negative ++ (number.whole ++ (point ++ exponent))

-- an integer, from its sign and what it is without
abbrev pub with_sign : Bool → ℕ → ℤ
with_sign negative n = cond negative (neg_ℤ (pos n)) (pos n)

-- all digits as one integer, as if there were no point
abbrev pub coefficient : Number → ℤ
coefficient n = with_sign n.negative (digits_value 10 (n.whole ++ n.fraction))

-- the power of ten by which that is to be multiplied
abbrev pub scale : Number → ℤ
scale n = n.power -ℤ pos (length n.fraction)
