-- Grammars of parsers of numbers.
use Rattle.std.specs.Prelude.{ℕ, ◌++◌, length, Some}
use Rattle.std.proofs.Common.{sym, ap, inl, inr, ◌∙◌, arith, length-append}
use Rattle.streams.specs.Equal.{same_rest, true_is_false}
use Rattle.streams.specs.Reading.{Reading}
use Rattle.stream_sets.specs.AsChar.{IsHexDigit}
use Rattle.grammars.specs.Grammar.{IsUnique, NoMatch, TakesTokens}
use Rattle.parser_definitions.specs.Class.{CharIsFunction}
use Rattle.parser_definitions.specs.Digits.{characters_length, first_or_none, not_more, one_front}
use Rattle.parser_definitions.specs.HexUint.{AreDigitsSoFar, HasNoneOrMany, HexUintDoes}
use Rattle.parser_definitions.specs.HexUint.{IsHexadecimal}
use Rattle.parser_definitions.specs.Left.{Left}
use Rattle.parser_definitions.specs.NumberGrammar.{Hexadecimal}
use Rattle.parser_definitions.specs.Projects.{Complete, Projects, complete, reads_cases}
use Rattle.parser_definitions.specs.Projects.{reads_fails, reads_lacks, reads_takes}

-- ---- hexadecimal numbers

module _ {N K T : Type 0} (number : N → ℕ) (most : ℕ) (seen : K → T) (code : K → ℕ) where
  pub hexadecimal_takes : TakesTokens (Hexadecimal number most seen code)
  unfolding Hexadecimal
  hexadecimal_takes = record {
    fewer = λ tokens n rest (front, digits, e, chars, are, some, few, stops, value). omega (
      arith,
      ap (λ l. length l) e,
      length-append front rest,
      characters_length seen code front digits chars,
      some,
    );
  }

  module _ {L : Type 0} (reading : Reading T L) (once : CharIsFunction seen code) where
    hexadecimal_unique : IsUnique (Hexadecimal number most seen code)
    unfolding Hexadecimal
    hexadecimal_unique = record {
      ends = λ tokens n rest (front, digits, e, chars, are, some, few, stops, value). (front, e);
      one = λ tokens n m rest other (f, xs, e, chars, are, some, few, stops, value)
          (g, ys, e2, chars2, are2, some2, few2, stops2, value2).
          let one = one_front seen code once IsHexDigit f g rest other xs ys (sym e ∙ e2) chars
          are stops chars2 are2 stops2 in
          same_rest f rest other (sym e ∙ e2 ∙ ap (λ l. l ++ other) (sym one.0));
    }

    module _ {S : Type 0} (at : Complete) (s : S) where
      none_or_many : (w : Left T)
          → HasNoneOrMany number most seen code reading s (complete at) w
          → NoMatch (Hexadecimal number most seen code) w.tokens
      unfolding Hexadecimal
      none_or_many w (inl (none, whole)) n rest (f, xs, e, chars, are, some, few, stops, value) =
          first_or_none seen code once IsHexDigit f xs w.tokens rest e chars are some none
      none_or_many w (inr (g, t, end, split, all, many, member)) n rest
          (f, xs, e, chars, are, some, few, stops, value) =
          not_more seen code once IsHexDigit f rest g end t (sym e ∙ split) stops all member
          (omega (arith, characters_length seen code f xs chars, few, many))

      pub hex_uint_projects : {b m : Type 0} → Projects b m
          (HexUintDoes number most seen code reading) at s (Hexadecimal number most seen code)
      unfolding Hexadecimal
      hex_uint_projects = record {
        reads = reads_cases
            (reads_takes (IsHexadecimal number most seen code reading)
            (λ w n rest (f, xs, p, chars, are, some, few, stops, ended, value).
            (f, xs, p.tokens, chars, are, some, few, stops, value)))
            (reads_cases
            (reads_lacks (λ s w. Some 1) (AreDigitsSoFar number most seen code reading)
            (λ w (all, few, more). true_is_false (sym more)))
            (reads_fails (HasNoneOrMany number most seen code reading) none_or_many));
        unique = hexadecimal_unique;
      }
