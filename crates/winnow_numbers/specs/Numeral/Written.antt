-- Lemmas about numbers by their grammars.
use Rattle.std.specs.Prelude.{◌≡◌, ◌⊎◌, ◌≤◌, ◌<◌, ◌^◌, ℕ, List, [], ◌∷◌, ◌++◌}
use Rattle.std.specs.Fmt.{decimal}
use Rattle.std.proofs.Common.{refl, sym, ap, subst, inl, inr, ◌∙◌, arith}
use Rattle.streams.specs.Equal.{same_first, same_others}
use Rattle.stream_sets.specs.AsChar.{IsDecDigit}
use Rattle.grammars.specs.Grammar.{Grammar}
use Rattle.grammars.specs.Grammar.Same.{Same}
use Rattle.parser_definitions.specs.Digits.{NoneFirst, own_characters, same_characters, value_in}
use Rattle.parser_definitions.specs.NumberGrammar.{Decimal, IsDecimalOf}
use Rattle.winnow_numbers.specs.Decimal.{decimal_digits, digits_written, one_decimal}

-- the tokens do not start with a digit
abbrev pub NoDigitFirst : List ℕ → Type 0
NoDigitFirst tokens = (d : ℕ) (more : List ℕ) → tokens ≡ d ∷ more → IsDecDigit d → ⊥

-- The tokens start with the output of `{}` for a number below the bound. No digit follows it,
-- except after that of 0.
unfoldable pub Written : {N : Type 0} → (N → ℕ) → ℕ → Grammar ℕ N
Written number bound tokens n rest =
    (tokens ≡ decimal (number n) ++ rest) × ((number n ≡ 0) ⊎ NoDigitFirst rest)
    × (number n < bound)

-- a '0' alone is the digit of 0
pub zero_is : IsDecimalOf (48 ∷ []) 0
zero_is = record {
  are = (omega arith, ((omega arith, omega arith), tt));
  lone_zero = λ others e. sym (same_others e);
  value = refl;
}

pub none_first : (tokens : List ℕ) → NoneFirst (λ x. x) (λ x. x) IsDecDigit tokens
    → NoDigitFirst tokens
none_first tokens (inl nothing) d more e is = absurd (cc)
none_first tokens (inr (t, rest, f, (x, same, other))) d more e is =
    other (subst IsDecDigit (same_first (sym e ∙ f) ∙ sym same) is)

pub first_none : (tokens : List ℕ) → NoDigitFirst tokens
    → NoneFirst (λ x. x) (λ x. x) IsDecDigit tokens
first_none [] none = inl refl
first_none (d ∷ more) none = inr (d, more, refl, (d, refl, none d more refl))

module _ {N : Type 0} (number : N → ℕ) (bound : ℕ) (small : bound ≤ 10 ^ 64) where
  written_stands : (tokens : List ℕ) (n : N) (rest : List ℕ)
      → Decimal number bound (λ x. x) (λ x. x) tokens n rest
      → Written number bound tokens n rest
  unfolding Decimal Written
  written_stands tokens n rest (front, digits, e, chars, is, stops, fits) =
      let written = digits_written digits (number n) (omega (arith, small, fits)) is in (
        e ∙ ap (λ l. l ++ rest) (same_characters front digits chars ∙ written),
        elim stops [
          | inl lone ↦ inl (sym is.value ∙ ap (λ l. value_in 10 l) lone)
          | inr none ↦ inr (none_first rest none)
        ],
        fits,
      )

  stands_written : (tokens : List ℕ) (n : N) (rest : List ℕ)
      → Written number bound tokens n rest
      → Decimal number bound (λ x. x) (λ x. x) tokens n rest
  unfolding Decimal Written
  stands_written tokens n rest (e, stops, fits) =
      let is = decimal_digits (number n) (omega (arith, small, fits)) in (
        decimal (number n),
        decimal (number n),
        e,
        own_characters (decimal (number n)),
        is,
        elim stops [
          | inl zero ↦
              let P : ℕ → Type 0 = λ v. IsDecimalOf (decimal (number n)) v in
              inl (one_decimal (decimal (number n)) (48 ∷ []) 0 (subst P zero is) zero_is)
          | inr none ↦ inr (first_none rest none)
        ],
        fits,
      )

  pub same_written : Same (Decimal number bound (λ x. x) (λ x. x)) (Written number bound)
  same_written = record { there = written_stands; back = stands_written }
