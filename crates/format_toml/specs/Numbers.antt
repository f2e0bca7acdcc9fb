-- TOML 1.0 (Integer): the written form of integers, by its ABNF, and the result for a text.
use Rattle.std.specs.Char.{digit_value}
use Rattle.std.specs.Str.Parse.{digits_value}
use Rattle.std.specs.Prelude.{◌≡◌, ◌⊎◌, ◌<◌, ◌^◌, ℕ, ℤ, pos, neg_ℤ, List, [], ◌∷◌, FitsSigned}
use Rattle.std.specs.Prelude.{Option, Some, None}
use Rattle.std.specs.Int.{w64}
use Rattle.format_parts.specs.Words.{For, One, latter}
use Rattle.grammars.specs.Texts.{BothText, EachText, EitherText, Text, TokenOfText}

-- DIGIT, HEXDIG, digit0-7, digit0-1: a digit of a base
abbrev pub DigitText : ℕ → Text ℕ ℕ
DigitText base = TokenOfText (λ c. c) (λ c. digit_value c < base)

-- DIGIT / underscore DIGIT
abbrev pub NextText : ℕ → Text ℕ ℕ
NextText base = EitherText (DigitText base) (BothText latter (One 95) (DigitText base))

-- DIGIT *( DIGIT / underscore DIGIT ), for the digits
abbrev pub DigitsText : ℕ → Text ℕ (List ℕ)
DigitsText base = BothText (λ digit others. digit ∷ others) (DigitText base)
    (EachText (NextText base))

-- the same for their number
unfoldable pub NumberText : ℕ → Text ℕ ℕ
NumberText base n tokens = (digits : List ℕ) × DigitsText base digits tokens
    × (n ≡ digits_value base digits)

-- a leading zero must be the only digit
abbrev pub IsLone : List ℕ → Type 0
IsLone tokens = (others : List ℕ) → tokens ≡ 48 ∷ others → others ≡ []

-- unsigned-dec-int = DIGIT / digit1-9 1*( DIGIT / underscore DIGIT )
unfoldable pub UnsignedText : Text ℕ ℕ
UnsignedText n tokens = NumberText 10 n tokens × IsLone tokens

-- what is meant
abbrev pub IsSame : ℕ → ℤ → Type 0
IsSame n z = z ≡ pos n

abbrev pub IsNegated : ℕ → ℤ → Type 0
IsNegated n z = z ≡ neg_ℤ (pos n)

-- 0x, 0o or 0b, which are these letters, and digits of the base
abbrev pub BasedText : ℕ → ℕ → Text ℕ ℕ
BasedText letter base = BothText latter (BothText latter (One 48) (One letter)) (NumberText base)

-- dec-int = [ minus / plus ] unsigned-dec-int
abbrev pub DecimalText : Text ℕ ℤ
DecimalText =
    EitherText (For IsSame UnsignedText)
    (EitherText (For IsSame (BothText latter (One 43) UnsignedText))
    (For IsNegated (BothText latter (One 45) UnsignedText)))

-- integer = dec-int / hex-int / oct-int / bin-int
abbrev pub AnyIntegerText : Text ℕ ℤ
AnyIntegerText =
    EitherText DecimalText
    (For IsSame (EitherText (BasedText 120 16) (EitherText (BasedText 111 8) (BasedText 98 2))))

-- an integer of 64 bits
unfoldable pub IntegerText : Text ℕ ℤ
IntegerText n tokens = AnyIntegerText n tokens × FitsSigned w64 n

-- ---- the result for a text

-- The number of the text, and no other is; none, where there is none below 2 ^ 64.
unfoldable pub IsNumber : Text ℕ ℕ → List ℕ → Option ℕ → Type 0
IsNumber text tokens None = (n : ℕ) → text n tokens → n < 2 ^ 64 → ⊥
IsNumber text tokens (Some n) = text n tokens × ((m : ℕ) → text m tokens → m ≡ n)

-- The integer of the text; none, where there is none.
unfoldable pub IsIntegerOf : List ℕ → Option ℤ → Type 0
IsIntegerOf tokens None = (n : ℤ) → IntegerText n tokens → ⊥
IsIntegerOf tokens (Some n) = IntegerText n tokens

-- the letter of a base
abbrev pub IsBase : ℕ → ℕ → Type 0
IsBase letter base =
    ((letter ≡ 120) × (base ≡ 16)) ⊎ (((letter ≡ 111) × (base ≡ 8)) ⊎ ((letter ≡ 98) × (base ≡ 2)))

-- the tokens after a leading zero: a letter, and digits of its base
unfoldable pub AfterZero : Text ℕ ℕ
AfterZero n tokens =
    (letter : ℕ) × (base : ℕ) × (rest : List ℕ) × IsBase letter base × (tokens ≡ letter ∷ rest)
    × NumberText base n rest
