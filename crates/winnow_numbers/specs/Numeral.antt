-- Decimal numerals at the start of an input, by the definitions of numbers.
use Rattle.std.specs.Prelude.{◌≡◌, ◌<◌, ◌==◌, ◌++◌, ℕ, ℤ, pos, neg_ℤ, Bool, true, List}
use Rattle.std.specs.Prelude.{[], ◌∷◌, Option, Some, None, if◌then◌else◌}
use Rattle.streams.specs.Input.{Input}
use Rattle.streams.specs.Reading.{Reading}
use Rattle.stream_errors.specs.Form.{plain}
use Rattle.parser_definitions.specs.Cases.{Case, OneCase, TakesWhere}
use Rattle.parser_definitions.specs.Digits.{AreCharacters, value_in}
use Rattle.parser_definitions.specs.Left.{left_of}
use Rattle.parser_definitions.specs.Number.{signed_value}
use Rattle.parser_definitions.specs.Numeral.{HasDigits, HasNumeral, NoNumeralDoes}
use Rattle.parser_definitions.specs.Outcome.{Does, setting_of}
use Rattle.parser_definitions.specs.Passed.{Passed}
pub mod Signed
pub mod Texts
pub mod Written

-- the sign that was passed, if one was
abbrev pub sign_of : Option ℕ → List ℕ
sign_of None = []
sign_of (Some c) = c ∷ []

-- A number after a sign, negative after '-', or after none; after a sign it is not 0.
abbrev pub SignedBy : Option ℕ → ℕ → ℤ → Type 0
SignedBy None n z = z ≡ pos n
SignedBy (Some c) n z = (0 < n) × (z ≡ (if c == 45 then neg_ℤ (pos n) else pos n))

module _ {K T L : Type 0} (seen : K → T) (code : K → ℕ) (reading : Reading T L) where
  -- The digits of a numeral are passed, and n is their number. (The form of errors is arbitrary.)
  abbrev pub PassesDigits : Input T → Input T → ℕ → Type 0
  PassesDigits i j n =
      (digits : List ℕ)
      × HasDigits seen code reading true (setting_of plain i) (left_of i) digits (left_of j)
      × (n ≡ value_in 10 digits)

  -- A numeral with its sign, if it has one, is passed, and z is its number.
  abbrev pub PassesSigned : Input T → Input T → ℤ → Type 0
  PassesSigned i j z =
      (sign : List ℕ) × (digits : List ℕ)
      × HasNumeral seen code reading true (setting_of plain i) (left_of i) sign digits (left_of j)
      × (z ≡ signed_value sign digits)

  -- The slice is a numeral: a sign, if one is allowed, and digits.
  abbrev pub IsNumeral : {S : Type 0} → Bool → S → L → Case T
  IsNumeral signed s slice at w rest =
      (front : List T) × (sign : List ℕ) × (digits : List ℕ)
      × HasNumeral seen code reading signed at w sign digits rest × reading.shows slice front
      × Passed reading front w rest × AreCharacters seen code front (sign ++ digits)

  abbrev pub NumeralDoes : {S : Type 0} → Bool → Does S T L
  NumeralDoes signed =
      -- returns the slice
      OneCase (TakesWhere (IsNumeral signed))
      -- the input does not start with a numeral
      (NoNumeralDoes seen code reading signed)
