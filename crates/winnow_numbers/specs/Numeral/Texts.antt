-- Numbers as texts, for each width of an integer.
use Rattle.std.specs.Prelude.{◌≡◌, ◌≤◌, ◌<◌, ◌^◌, ◌++◌, ℕ, List}
use Rattle.std.specs.Fmt.{decimal}
use Rattle.std.proofs.Common.{refl, ap, subst, inr}
use Rattle.stream_sets.specs.AsChar.{IsDecDigit}
use Rattle.grammars.specs.Grammar.Same.{same_sym}
use Rattle.grammars.specs.Texts.{IsGrammarOf, NotFirst, Text}
use Rattle.grammars.specs.Texts.Parts.{same_of}
use Rattle.parser_definitions.specs.NumberGrammar.{Decimal}
use Rattle.winnow_numbers.specs.Numeral.Written.{NoDigitFirst, Written, same_written}

-- the output of `{}` for a number below the bound, as 2 ^ 16 for `u16`
unfoldable pub NumberText : ℕ → Text ℕ ℕ
NumberText bound n tokens = (tokens ≡ decimal n) × (n < bound)

no_digit : (rest : List ℕ) → NotFirst IsDecDigit rest → NoDigitFirst rest
no_digit rest not d more e is =
    let P : List ℕ → Type 0 = λ l. NotFirst IsDecDigit l in absurd (subst P e not is)

module _ (bound : ℕ) where
  written_of : IsGrammarOf (Written (λ n. n) bound) (NumberText bound) (NotFirst IsDecDigit)
  unfolding Written NumberText
  written_of = record {
    there = λ tokens n rest (e, stops, fits). (decimal n, e, (refl, fits));
    back = λ n front rest (e, fits) behind.
        (ap (λ l. l ++ rest) e, inr (no_digit rest behind), fits);
  }

  -- `dec_uint` reads them if no digit follows
  pub number_of : bound ≤ 10 ^ 64 → IsGrammarOf (Decimal (λ n. n) bound (λ b. b) (λ b. b))
      (NumberText bound) (NotFirst IsDecDigit)
  number_of small = same_of (same_sym (same_written (λ n. n) bound small)) written_of
