-- Proofs that arrays, objects and values of a level leave a unique rest, and consume characters.
use Rattle.std.specs.Prelude.{◌≡◌, ℕ, zero, suc, true, false, [], ◌∷◌, Some, None}
use Rattle.std.proofs.Common.{inl}
use Rattle.stream_sets.specs.AsChar.{IsMultispace}
use Rattle.stream_sets.specs.Range.{from_to}
use Rattle.format_json_values.specs.Escapes.{quoted_takes, quoted_unique}
use Rattle.format_json_values.specs.Numbers.{number_takes, number_unique}
use Rattle.format_parts.specs.Unique.{char_takes, char_unique, run_unique, word_takes, word_unique}
use Rattle.format_parts.specs.Words.{former, pair}
use Rattle.format_json_texts.specs.Values.{AnyValue, AnyWord, Array, Commas, Gap, HasText, IsArray}
use Rattle.format_json_texts.specs.Values.{IsNumber, IsObject, IsString, IsWord, Member, Object}
use Rattle.format_json_texts.specs.Values.{Punctuation, Scalar, SpacedOut}
use Rattle.format_json_texts.specs.declared.value.Value.{Value}
use Rattle.grammars.specs.Grammar.{Grammar, IsUnique, TakesTokens}
use Rattle.grammars.specs.Grammar.Meaning.{meaning_takes, meaning_unique}
use Rattle.grammars.specs.Grammar.Sequences.{three_take, three_unique}
use Rattle.grammars.specs.Grammar.Unique.{both_take, both_unique, either_takes, either_unique}
use Rattle.grammars.specs.Grammar.Unique.{gathered_unique, parted_unique}
use Rattle.stream_sets.specs.Accumulator.Holds.{HasCharacters}

-- ---- whitespace and marks

gap_unique : IsUnique Gap
gap_unique = run_unique IsMultispace 0

mark_unique : (c : ℕ) → IsUnique (Punctuation c)
mark_unique c = both_unique pair (char_unique c) gap_unique

mark_takes : (c : ℕ) → TakesTokens (Punctuation c)
mark_takes c = both_take pair (char_unique c) gap_unique (inl (char_takes c))

module _ {O : Type 0} {g : Grammar ℕ O} (unique : IsUnique g) where
  spaced_unique : IsUnique (SpacedOut g)
  spaced_unique = both_unique former unique gap_unique

  commas_unique : {A : Type 0} → IsUnique (Commas {A = A} g)
  commas_unique =
      gathered_unique (λ list os. list.items ≡ os)
      (parted_unique unique (mark_unique 44) (from_to 0 None))

-- ---- words

words_unique : IsUnique AnyWord
words_unique =
    either_unique (word_unique (110 ∷ 117 ∷ 108 ∷ 108 ∷ []) None)
    (either_unique (word_unique (116 ∷ 114 ∷ 117 ∷ 101 ∷ []) (Some true))
    (word_unique (102 ∷ 97 ∷ 108 ∷ 115 ∷ 101 ∷ []) (Some false)))

words_take : TakesTokens AnyWord
words_take =
    either_takes (word_takes 110 (117 ∷ 108 ∷ 108 ∷ []) None)
    (either_takes (word_takes 116 (114 ∷ 117 ∷ 101 ∷ []) (Some true))
    (word_takes 102 (97 ∷ 108 ∷ 115 ∷ 101 ∷ []) (Some false)))

-- ---- values

module _ {A : Type 0} where
  scalar_unique : IsUnique (Scalar {A = A} HasCharacters)
  scalar_unique =
      either_unique (meaning_unique IsWord words_unique)
      (either_unique (meaning_unique IsNumber (meaning_unique HasText number_unique))
      (meaning_unique IsString quoted_unique))

  scalar_takes : TakesTokens (Scalar {A = A} HasCharacters)
  scalar_takes =
      either_takes (meaning_takes IsWord words_take)
      (either_takes (meaning_takes IsNumber (meaning_takes HasText number_takes))
      (meaning_takes IsString quoted_takes))

  module _ {g : Grammar ℕ (Value A)} (unique : IsUnique g) where
    array_unique : IsUnique (Array HasCharacters g)
    array_unique =
        three_unique (λ o1 o2 o3. o2) (mark_unique 91) (commas_unique (spaced_unique unique))
        (char_unique 93)

    array_takes : TakesTokens (Array HasCharacters g)
    array_takes =
        three_take (λ o1 o2 o3. o2) (mark_unique 91) (commas_unique (spaced_unique unique))
        (char_unique 93) (inl (mark_takes 91))

    member_unique : IsUnique (Member HasCharacters g)
    member_unique =
        three_unique (λ o1 o2 o3. (o1, o3)) (spaced_unique quoted_unique) (mark_unique 58)
        (spaced_unique unique)

    object_unique : IsUnique (Object HasCharacters g)
    object_unique =
        three_unique (λ o1 o2 o3. o2) (mark_unique 123) (commas_unique member_unique)
        (char_unique 125)

    object_takes : TakesTokens (Object HasCharacters g)
    object_takes =
        three_take (λ o1 o2 o3. o2) (mark_unique 123) (commas_unique member_unique)
        (char_unique 125) (inl (mark_takes 123))

  pub value_unique : (level : ℕ) → IsUnique (AnyValue {A = A} HasCharacters level)
  unfolding AnyValue
  value_unique zero = scalar_unique
  value_unique (suc level) =
      either_unique scalar_unique
      (either_unique (meaning_unique IsArray (array_unique (value_unique level)))
      (meaning_unique IsObject (object_unique (value_unique level))))

  pub value_takes : (level : ℕ) → TakesTokens (AnyValue {A = A} HasCharacters level)
  unfolding AnyValue
  value_takes zero = scalar_takes
  value_takes (suc level) =
      either_takes scalar_takes
      (either_takes (meaning_takes IsArray (array_takes (value_unique level)))
      (meaning_takes IsObject (object_takes (value_unique level))))
