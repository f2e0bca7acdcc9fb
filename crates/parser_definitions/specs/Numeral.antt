-- Decimal numerals at the start of the input.
use Rattle.std.specs.Prelude.{◌≡◌, ◌⊎◌, ◌≤◌, ℕ, Bool, true, false, List, [], ◌∷◌, Some}
use Rattle.std.specs.List.{All, AllByRecursion}
use Rattle.streams.specs.Reading.{Reading}
use Rattle.stream_errors.specs.Form.{ErrorForm, modal, plain}
use Rattle.stream_sets.specs.AsChar.{IsDecDigit}
use Rattle.parser_definitions.specs.Cases.{Case, FailsWhere, LacksAfter, OneCase}
use Rattle.parser_definitions.specs.Digits.{AreCharacters, IsIn, NoneFirst}
use Rattle.parser_definitions.specs.Left.{Left}
use Rattle.parser_definitions.specs.Outcome.{Does, Setting}
use Rattle.parser_definitions.specs.Passed.{Passed}
pub mod Longer
pub mod Once

-- a sign: '+' or '-'
abbrev pub IsSign : ℕ → Type 0
IsSign c = (c ≡ 43) ⊎ (c ≡ 45)

-- a digit from 1 to 9
abbrev pub IsLeadingDigit : ℕ → Type 0
IsLeadingDigit c = (49 ≤ c) × (c ≤ 57)

-- there is no sign
abbrev pub is_none : List ℕ → Bool
is_none [] = true
is_none (c ∷ cs) = false

-- the rest after an incomplete numeral: for plain errors, no input is consumed
abbrev pub left_for : {T : Type 0} → ErrorForm → Left T → Left T → Left T
left_for plain w passed = w
left_for modal w passed = passed

-- `seen` gives the view of a token, and `code` the number of its character.
module _ {K T : Type 0} (seen : K → T) (code : K → ℕ) where
  -- The input does not start with digits, and more input adds no digit.
  abbrev pub HasNoDigits : Bool → Setting → Left T → Type 0
  HasNoDigits zero at w =
      -- complete input is empty
      ((w.tokens ≡ []) × (at.more ≡ false))
      -- the input starts with another character, or with a '0' that is not allowed
      ⊎ ((x : K) × (rest : List T) × (w.tokens ≡ seen x ∷ rest)
      × (IsLeadingDigit (code x) → ⊥) × (zero ≡ true → code x ≡ 48 → ⊥))

  module _ {L : Type 0} (reading : Reading T L) where
    -- If a sign is allowed, one at the start is passed. Otherwise nothing is passed.
    abbrev pub HasSign : Bool → Left T → List ℕ → Left T → Type 0
    HasSign signed w sign rest =
        -- a sign is allowed, and the input starts with one
        ((x : K) × (signed ≡ true) × IsSign (code x) × Passed reading (seen x ∷ []) w rest
        × (sign ≡ code x ∷ []))
        -- there is none
        ⊎ ((signed ≡ true → NoneFirst seen code IsSign w.tokens) × (sign ≡ []) × (rest ≡ w))

    -- Digits are passed, and more input adds no digit.
    abbrev pub HasDigits : Bool → Setting → Left T → List ℕ → Left T → Type 0
    HasDigits zero at w digits rest =
        -- a single '0', if it is allowed
        ((x : K) × (zero ≡ true) × (code x ≡ 48) × Passed reading (seen x ∷ []) w rest
        × (digits ≡ 48 ∷ []))
        -- a digit from 1 to 9 and those after it
        ⊎ ((front : List T) × (first : ℕ) × (others : List ℕ) × (digits ≡ first ∷ others)
        × IsLeadingDigit first × AllByRecursion IsDecDigit others × Passed reading front w rest
        × AreCharacters seen code front digits × NoneFirst seen code IsDecDigit rest.tokens
        × (rest.tokens ≡ [] → at.more ≡ false))

    -- The input is too short for digits.
    abbrev pub LacksMore : Left T → Left T → Type 0
    LacksMore w rest =
        -- it is empty
        ((w.tokens ≡ []) × (rest ≡ w))
        -- it is only a digit from 1 to 9, which is passed, and digits after it
        ⊎ ((x : K) × IsLeadingDigit (code x) × Passed reading (seen x ∷ []) w rest
        × All (IsIn seen code IsDecDigit) rest.tokens)

    -- A numeral is passed: a sign, if one is allowed, and digits. A '0' has no sign.
    abbrev pub HasNumeral : Bool → Setting → Left T → List ℕ → List ℕ → Left T → Type 0
    HasNumeral signed at w sign digits rest =
        (mid : Left T) × HasSign signed w sign mid × HasDigits (is_none sign) at mid digits rest

    -- The numeral is incomplete, and more input may come: the sign and the first digit are passed.
    abbrev pub IsIncomplete : {S : Type 0} → Bool → S → Case T
    IsIncomplete signed s at w place =
        (sign : List ℕ) × (mid : Left T) × (passed : Left T) × HasSign signed w sign mid
        × LacksMore mid passed × (at.more ≡ true) × (place ≡ left_for at.form w passed)

    -- No digits follow the sign.
    abbrev pub HasNone : {S : Type 0} → Bool → S → Setting → Left T → Type 0
    HasNone signed s at w =
        (sign : List ℕ) × (mid : Left T) × HasSign signed w sign mid
        × HasNoDigits (is_none sign) at mid

    -- The outcome if the input does not start with a numeral.
    abbrev pub NoNumeralDoes : {S N : Type 0} → Bool → Does S T N
    NoNumeralDoes signed =
        -- partial input is too short
        OneCase (LacksAfter (Some 1) (IsIncomplete signed))
        -- there is no numeral
        (FailsWhere (HasNone signed))
