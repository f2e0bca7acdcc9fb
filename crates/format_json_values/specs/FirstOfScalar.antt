-- Which of two is read, by the character that is first.
use Rattle.std.specs.Prelude.{◌≡◌, ◌⊎◌, ℕ}
use Rattle.stream_sets.specs.AsChar.{IsDecDigit}
use Rattle.format_json_texts.specs.Number.{ContinuesNumber}
use Rattle.format_json_texts.specs.Values.{AnyValue}
use Rattle.format_json_texts.specs.Values.{Scalar}
use Rattle.format_json_texts.specs.Values.{ScalarText, ValueText}
use Rattle.format_json_texts.specs.Values.Texts.{value_of}
use Rattle.stream_sets.specs.Accumulator.Holds.{HasCharacters}
use Rattle.grammars.specs.Texts.{IsGrammarOf, NotFirst}

-- what a number begins with
abbrev pub IsNumeric : ℕ → Type 0
IsNumeric c = (c ≡ 45) ⊎ IsDecDigit c

-- ---- values that have no others in them

-- their grammar is that of their texts
pub scalar_of : {A : Type 0}
    → IsGrammarOf (Scalar {A = A} HasCharacters) (ScalarText HasCharacters)
    (NotFirst ContinuesNumber)
unfolding AnyValue ValueText
scalar_of = value_of HasCharacters 0
