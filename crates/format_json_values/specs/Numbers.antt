-- The parts of numbers: what they read, and that it is one, and takes characters.
use Rattle.std.specs.Prelude.{ℕ}
use Rattle.std.proofs.Common.{inl, inr, refl}
use Rattle.streams.specs.Text.{text_reading}
use Rattle.stream_sets.specs.AsChar.{IsDecDigit}
use Rattle.format_json_values.specs.Alike.{class_same, four_second, taken_same}
use Rattle.format_parts.specs.Unique.{char_takes, char_unique, run_unique}
use Rattle.format_parts.specs.Words.{Char, latter, pair}
use Rattle.format_json_values.specs.declared.number.LeadingDigits.{LeadingDigits}
use Rattle.format_json_texts.specs.Number as texts
use Rattle.format_json_texts.specs.Number.{IsNonzeroDigit}
use Rattle.winnow_token.specs.OneOf.Laws.{token_of_takes}
use Rattle.grammars.specs.Grammar.{Both, Class, Either, Grammar, InClass, IsUnique, Optional, Taken}
use Rattle.grammars.specs.Grammar.{TakesTokens, TokenOf}
use Rattle.grammars.specs.Grammar.Alike.{both_same, either_same}
use Rattle.grammars.specs.Grammar.Same.{Same, same_refl}
use Rattle.grammars.specs.Grammar.Tuples.{Four}
use Rattle.streams.specs.Reading.{Reading}
use Rattle.grammars.specs.Grammar.Sequences.{four_take, four_unique}
use Rattle.grammars.specs.Grammar.Unique.{both_take, both_unique, either_takes, either_unique}
use Rattle.grammars.specs.Grammar.Unique.{optional_unique, taken_takes, taken_unique}
use Rattle.grammars.specs.Grammar.Unique.{token_of_unique}

pub integer_unique : IsUnique texts.Integer
integer_unique =
    either_unique (taken_unique text_reading (char_unique 48))
    (taken_unique text_reading (both_unique pair
    (token_of_unique (λ c. c) (InClass IsNonzeroDigit (λ c. c)) tt) (run_unique IsDecDigit 0)))

pub fraction_unique : IsUnique texts.Fraction
fraction_unique = both_unique latter (char_unique 46) (run_unique IsDecDigit 1)

pub exponent_unique : IsUnique texts.Exponent
exponent_unique =
    both_unique latter
    (both_unique pair (either_unique (char_unique 101) (char_unique 69))
    (optional_unique (either_unique (char_unique 43) (char_unique 45)))) (run_unique IsDecDigit 1)

pub number_unique : IsUnique texts.Number
number_unique =
    taken_unique text_reading (four_unique (optional_unique (char_unique 45)) integer_unique
    (optional_unique fraction_unique) (optional_unique exponent_unique))

pub integer_takes : TakesTokens texts.Integer
integer_takes =
    either_takes (taken_takes text_reading (char_takes 48))
    (taken_takes text_reading (both_take pair
    (token_of_unique (λ c. c) (InClass IsNonzeroDigit (λ c. c)) tt) (run_unique IsDecDigit 0)
    (inl (token_of_takes (λ c. c) (InClass IsNonzeroDigit (λ c. c)) tt))))

pub number_takes : TakesTokens texts.Number
number_takes =
    taken_takes text_reading (four_take (optional_unique (char_unique 45)) integer_unique
    (optional_unique fraction_unique) (optional_unique exponent_unique) (inr (inl integer_takes)))

-- ---- over any stream of characters

module _ {K T L : Type 0} (reading : Reading T L) (seen : K → T) (code : K → ℕ)
    (literal : ℕ → Grammar T ℕ) where
  abbrev DigitsOf : ℕ → Grammar T L
  DigitsOf least = Class IsDecDigit least code seen reading

  -- a digit from 1 on
  abbrev LeadingOf : Grammar T K
  LeadingOf = TokenOf seen (λ (set : LeadingDigits). InClass IsNonzeroDigit code tt) (record {})

  abbrev IntegerOf : Grammar T L
  IntegerOf = Either (Taken reading (literal 48)) (Taken reading (Both pair LeadingOf (DigitsOf 0)))

  abbrev FractionOf : Grammar T L
  FractionOf = Both latter (literal 46) (DigitsOf 1)

  abbrev ExponentOf : Grammar T L
  ExponentOf = Both latter (Both pair (Either (literal 101) (literal 69))
      (Optional (Either (literal 43) (literal 45)))) (DigitsOf 1)

  -- an optional minus, digits, an optional fraction and an optional exponent
  abbrev pub NumberOf : Grammar T L
  NumberOf = Taken reading
      (Four (Optional (literal 45)) IntegerOf (Optional FractionOf) (Optional ExponentOf))

-- over a text it is a number
pub number_same : Same (NumberOf text_reading (λ c. c) (λ c. c) Char) texts.Number
number_same =
    taken_same (four_second _ _ _ (either_same (same_refl _) (taken_same (both_same pair
    (class_same (λ (set : LeadingDigits). InClass IsNonzeroDigit (λ c. c) tt) (record {})
    IsNonzeroDigit
    (λ c. (λ told. told.0 refl, λ is. (λ t. is, λ x. refl)))) (same_refl _)))))
