-- The grammar of the parser of words.
use Rattle.std.specs.Prelude.{◌<◌, ℕ, false, List, [], ◌∷◌, ◌++◌, length, None}
use Rattle.std.proofs.Common.{sym, ap, ◌∙◌, arith, length-append}
use Rattle.machines.specs.Languages.{Language}
use Rattle.streams.specs.Equal.{same_rest, true_is_false}
use Rattle.streams.specs.Reading.{Reading}
use Rattle.grammars.specs.Grammar.{Grammar, TakesTokens}
use Rattle.parser_definitions.specs.Projects.{Complete, Projects, reads_cases, reads_fails}
use Rattle.parser_definitions.specs.Projects.{reads_lacks, reads_takes}
use Rattle.winnow_machines.specs.Word.{HasNone, IsUnfinished, IsWord, TakesWord, WordDoes}
use Rattle.winnow_machines.specs.Word.{one_word, word_or_none}

-- The longest word, by a slice that shows it.
unfoldable pub LongestWord : {S : Type 0} → Reading ℕ S → Language → Grammar ℕ S
LongestWord reading L tokens slice rest =
    (front : List ℕ) × IsWord L false tokens front rest × reading.shows slice front

module _ {X S : Type 0} (reading : Reading ℕ S) (language : X → Language) where
  pub word_projects : {b m : Type 0} {at : Complete} (x : X)
      → Projects b m (WordDoes reading language) at x (LongestWord reading (language x))
  unfolding LongestWord
  word_projects x = record {
    reads = reads_cases
        (reads_takes (TakesWord reading language) (λ w o rest (f, one, shown, p). (f, one, shown)))
        (reads_cases (reads_lacks (λ x w. None) (IsUnfinished reading language)
        (λ w (longer, is). true_is_false (sym is)))
        (reads_fails (λ x at w. HasNone (language x) at.more w.tokens)
        (λ w none o rest (f, one, shown). word_or_none (language x) one none)));
    unique = record {
      ends = λ tokens o rest (f, one, shown). (f, one.splits);
      one = λ tokens o p rest end (f, one, shown) (g, two, shows).
          same_rest f rest end (sym one.splits ∙ two.splits
          ∙ ap (λ h. h ++ end) (sym (one_word (language x) one two)));
    };
  }

  pub word_takes : (x : X) → (language x [] → ⊥) → TakesTokens (LongestWord reading (language x))
  unfolding LongestWord
  word_takes x some = record {
    fewer = λ tokens o rest (f, one, shown). by f one;
  }
    where
      by : {tokens rest : List ℕ} (f : List ℕ) → IsWord (language x) false tokens f rest
          → length rest < length tokens
      by [] one = absurd (some one.word)
      by {rest = rest} (b ∷ f) one = omega (
        arith,
        ap (λ l. length l) one.splits,
        length-append (b ∷ f) rest,
      )
