-- The definitions of `dec_uint` and `dec_int`.
use Rattle.std.specs.Prelude.{◌≡◌, ◌<◌, ◌≤◌, ⊤, ℕ, ℤ, pos, neg_ℤ, Bool, true, false, List, [], ◌∷◌}
use Rattle.std.specs.Prelude.{◌==◌, if◌then◌else◌, Some}
use Rattle.std.proofs.Common.{sym, ap, subst, inl, inr, ◌∙◌, arith}
use Rattle.streams.specs.Reading.{Reading}
use Rattle.parser_definitions.specs.Cases.{Case, FailsWhere, OneCase, TakesWhere, after_law}
use Rattle.parser_definitions.specs.Cases.{cases_law, fails_law, takes_law}
use Rattle.parser_definitions.specs.Class.{CharIsFunction}
use Rattle.parser_definitions.specs.Digits.{value_in}
use Rattle.parser_definitions.specs.Does.{Lawful}
use Rattle.parser_definitions.specs.HexUint.{OneNumber}
use Rattle.parser_definitions.specs.Left.{End, Left, extend}
use Rattle.parser_definitions.specs.Numeral.{HasNone, HasNumeral, IsIncomplete, NoNumeralDoes}
use Rattle.parser_definitions.specs.Numeral.Longer.{none_more, numeral_more}
use Rattle.parser_definitions.specs.Numeral.Once.{incomplete_or_none, numeral_or_incomplete}
use Rattle.parser_definitions.specs.Numeral.Once.{numeral_or_none, one_incomplete, one_numeral}
use Rattle.parser_definitions.specs.Outcome.{Does, Outcome, Setting}

-- A type of numbers: whether they have a sign; the number of a numeral; which of them fit, and
-- which do not; and the number of a value.
pub record Numbers (N V : Type 0) : Type 1 where
  pub signed : Bool
  pub value : List ℕ → List ℕ → V
  pub fits : V → Type 0
  pub misfits : V → Type 0
  pub number : N → V

-- the number that digits after a sign denote: negative after '-'
abbrev pub signed_value : List ℕ → List ℕ → ℤ
signed_value [] digits = pos (value_in 10 digits)
signed_value (c ∷ cs) digits =
    if c == 45 then neg_ℤ (pos (value_in 10 digits)) else pos (value_in 10 digits)

-- numbers below a bound
abbrev pub unsigned_numbers : {N : Type 0} → (N → ℕ) → ℕ → Numbers N ℕ
unsigned_numbers number bound = record {
  signed = false;
  value = λ sign digits. value_in 10 digits;
  fits = λ v. v < bound;
  misfits = λ v. bound ≤ v;
  number = number;
}

-- numbers with a sign, of which some fit
abbrev pub signed_numbers : {N : Type 0} → (N → ℤ) → (ℤ → Type 0) → Numbers N ℤ
signed_numbers number fits = record {
  signed = true;
  value = signed_value;
  fits = fits;
  misfits = λ z. fits z → ⊥;
  number = number;
}

-- No number both fits and does not fit.
abbrev pub FitsApart : {N V : Type 0} → Numbers N V → Type 0
FitsApart {V = V} g = (v : V) → g.fits v → g.misfits v → ⊥

pub unsigned_apart : {N : Type 0} (number : N → ℕ) (bound : ℕ)
    → FitsApart (unsigned_numbers number bound)
unsigned_apart number bound v fits large = absurd (omega (arith, fits, large))

pub signed_apart : {N : Type 0} (number : N → ℤ) (fits : ℤ → Type 0)
    → FitsApart (signed_numbers number fits)
signed_apart number fits v fit misfit = misfit fit

module _ {S N V K T L : Type 0} (g : Numbers N V) (seen : K → T) (code : K → ℕ)
    (reading : Reading T L) where
  -- A numeral is passed, and its number fits.
  abbrev pub IsNumber : S → N → Case T
  IsNumber s n at w rest =
      (sign : List ℕ) × (digits : List ℕ)
      × HasNumeral seen code reading g.signed at w sign digits rest
      × g.fits (g.value sign digits) × (g.number n ≡ g.value sign digits)

  -- The input starts with a numeral, and its number does not fit.
  abbrev pub IsMisfit : S → Setting → Left T → Type 0
  IsMisfit s at w =
      (sign : List ℕ) × (digits : List ℕ) × (rest : Left T)
      × HasNumeral seen code reading g.signed at w sign digits rest
      × g.misfits (g.value sign digits)

  abbrev pub NumberDoes : Does S T N
  NumberDoes =
      -- returns the number
      OneCase (TakesWhere IsNumber)
      -- it does not fit
      (OneCase (FailsWhere IsMisfit)
      -- the input does not start with a numeral
      (NoNumeralDoes seen code reading g.signed))

  module _ (once : CharIsFunction seen code) (fits_apart : FitsApart g) where
    one_number : (at : Setting) (s : S) (w : Left T) (m n : N) (rest end : Left T)
        → IsNumber s m at w rest → IsNumber s n at w end → OneNumber g.number m n × (rest ≡ end)
    one_number at s w m n rest end (sign, digits, has, fit, is) (other, more, also, fits, be) =
        let (same, (digit, left)) =
        one_numeral seen code reading once at g.signed w sign other digits more rest end has also
        in (
          is ∙ ap (λ l. g.value l digits) same ∙ ap (λ l. g.value other l) digit ∙ sym be,
          left,
        )

    fits_or_not : (at : Setting) (s : S) (w : Left T) (n : N) (rest : Left T)
        → IsNumber s n at w rest → IsMisfit s at w → ⊥
    fits_or_not at s w n rest (sign, digits, has, fit, is) (other, more, end, also, large) =
        let (same, (digit, left)) =
        one_numeral seen code reading once at g.signed w sign other digits more rest end has also
        in
        let P : V → Type 0 = λ v. g.misfits v in
        fits_apart (g.value sign digits) fit (subst P
        (sym (ap (λ l. g.value l digits) same ∙ ap (λ l. g.value other l) digit)) large)

    no_numeral_law : Lawful ⊤ (OneNumber g.number)
        (NoNumeralDoes seen code reading {S = S} {N = N} g.signed)
    no_numeral_law = cases_law
        (after_law (Some 1) (IsIncomplete seen code reading g.signed) (λ at s w a b p q.
        one_incomplete seen code reading once at g.signed s w a b p q))
        (fails_law (HasNone seen code reading g.signed)
        (λ is more flag s w a. none_more seen code reading g.signed more flag s w a))
        (λ at s w x y (a, p, e) (none, f).
        incomplete_or_none seen code reading once at g.signed s w a p none)

    -- a numeral, or none
    numeral_or : (at : Setting) (s : S) (w : Left T) (sign digits : List ℕ) (rest : Left T)
        (y : Outcome (End S T) N) → HasNumeral seen code reading g.signed at w sign digits rest
        → NoNumeralDoes seen code reading g.signed at s w y → ⊥
    numeral_or at s w sign digits rest y has (inl (place, a, e)) =
        numeral_or_incomplete seen code reading once at g.signed s w sign digits rest place has a
    numeral_or at s w sign digits rest y has (inr (none, e)) =
        numeral_or_none seen code reading once at g.signed s w sign digits rest has none

    pub number_law : Lawful ⊤ (OneNumber g.number) NumberDoes
    number_law = cases_law
        (takes_law IsNumber one_number
        (λ is more flag s w n rest (sign, digits, has, fit, is_number). (
          sign,
          digits,
          numeral_more seen code reading g.signed more flag w sign digits rest has,
          fit,
          is_number,
        )))
        (cases_law
        (fails_law IsMisfit (λ is more flag s w (sign, digits, rest, has, large). (
          sign,
          digits,
          extend more rest,
          numeral_more seen code reading g.signed more flag w sign digits rest has,
          large,
        )))
        no_numeral_law
        (λ at s w x y ((sign, digits, rest, has, large), e) d.
        numeral_or at s w sign digits rest y has d))
        apart
      where
        apart : (at : Setting) (s : S) (w : Left T) (x y : Outcome (End S T) N)
            → TakesWhere IsNumber at s w x
            → OneCase (FailsWhere IsMisfit) (NoNumeralDoes seen code reading g.signed) at s w y → ⊥
        apart at s w x y (n, rest, a, e) (inl (b, f)) = fits_or_not at s w n rest a b
        apart at s w x y (n, rest, (sign, digits, has, fit, is), e) (inr d) =
            numeral_or at s w sign digits rest y has d

-- ---- `dec_uint` and `dec_int`

-- `number` gives the number of an output; the type of outputs has those below `bound`.
abbrev pub DecUintDoes : {S N K T L : Type 0} → (N → ℕ) → ℕ → (K → T) → (K → ℕ) → Reading T L
    → Does S T N
DecUintDoes number bound = NumberDoes (unsigned_numbers number bound)

-- The type of outputs has the numbers that fit.
abbrev pub DecIntDoes : {S N K T L : Type 0} → (N → ℤ) → (ℤ → Type 0) → (K → T) → (K → ℕ)
    → Reading T L → Does S T N
DecIntDoes number fits = NumberDoes (signed_numbers number fits)
