-- Lemmas: characters and words leave a unique rest, and some of them consume characters.
use Rattle.std.specs.Prelude.{◌≡◌, ℕ, List, [], ◌∷◌, length}
use Rattle.std.proofs.Common.{sym, ap, ◌∙◌, arith, length-append}
use Rattle.streams.specs.Equal.{same_rest}
use Rattle.streams.specs.Text.{text_reading}
use Rattle.format_parts.specs.Words.{Char, RunOf, Word}
use Rattle.winnow_ascii.specs.Class.Laws.{class_unique}
use Rattle.grammars.specs.Grammar.{IsUnique, TakesTokens, Token}
use Rattle.grammars.specs.Grammar.Outputs.{IsAlike, token_alike}
use Rattle.grammars.specs.Grammar.Unique.{literally_takes, literally_unique}

-- ---- characters

pub char_unique : (c : ℕ) → IsUnique (Char c)
char_unique c =
    literally_unique text_reading (λ c xs. xs ≡ c ∷ []) (λ c _. c) c
    (λ xs ys e f. ap (λ l. text_reading.units l) (e ∙ sym f))

pub char_takes : (c : ℕ) → TakesTokens (Char c)
char_takes c =
    literally_takes text_reading (λ c xs. xs ≡ c ∷ []) (λ c _. c) c
    (λ e. omega (arith, ap (λ l. length l) e))

pub run_unique : (class : ℕ → Type 0) (least : ℕ) → IsUnique (RunOf class least)
run_unique class least = class_unique class least (λ c. c) (λ c. c) text_reading (λ c d e. e)

pub word_unique : {O : Type 0} (word : List ℕ) (output : O) → IsUnique (Word word output)
unfolding Word
word_unique word output = record {
  ends = λ tokens o rest (is, e). (word, e);
  one = λ tokens o p rest other (is, e) (too, f). same_rest word rest other (sym e ∙ f);
}

pub word_takes : {O : Type 0} (c : ℕ) (more : List ℕ) (output : O)
    → TakesTokens (Word (c ∷ more) output)
unfolding Word
word_takes c more output = record {
  fewer = λ tokens o rest (is, e).
      omega (arith, ap (λ l. length l) e, length-append more rest);
}

pub token_one : IsAlike (λ c. c) (Token {T = ℕ} (λ c. c))
token_one = token_alike (λ c. c) (λ c d e. e)
