-- Proofs that values with a common encoding are equivalent.
use Rattle.std.specs.Prelude.{◌≡◌, ◌+◌, ◌*◌, ◌-◌, ℕ, zero, suc, Bool}
use Rattle.std.specs.Prelude.{List, [], ◌++◌, Option, Some, None}
use Rattle.std.proofs.Common.{sym, ap, subst, inl, inr, ◌∙◌, arith}
use Rattle.stream_sets.specs.AsChar.{IsMultispace}
use Rattle.format_parts.specs.Hexadecimal.{IsAlone, unit_one}
use Rattle.format_parts.specs.Unique.{char_unique, run_unique, token_one}
use Rattle.format_parts.specs.Words.{Slice, Word, former, pair}
use Rattle.format_json_values.specs.Escapes.{character_unique, quoted_unique, units_one}
use Rattle.format_json_values.specs.Numbers.{number_unique}
use Rattle.format_json_texts.specs.Number.{Number}
use Rattle.format_json_texts.specs.Strings.{AreSurrogatePair, Character, IsUnescaped, Quoted}
use Rattle.format_json_texts.specs.Strings.{StandsFor, Unicode}
use Rattle.format_json_texts.specs.Values.{AnyValue, AnyWord, Array, Gap, HasText, IsArray}
use Rattle.format_json_texts.specs.Values.{IsNumber, IsObject, IsString, IsWord, JsonText, Member}
use Rattle.format_json_texts.specs.Values.{Object, Punctuation, Scalar}
use Rattle.format_json_texts.specs.Values.Texts.{json_of}
use Rattle.format_json_texts.specs.declared.value.Value.{Value}
use Rattle.format_json_values.specs.Unique.{value_unique}
use Rattle.format_json_writer.specs.Alike.{AreAlike, AreAlikeBy, AreAlikeMembers}
use Rattle.grammars.specs.Agreed.{Agrees, between_agrees, either_agrees, former_agrees}
use Rattle.grammars.specs.Agreed.{gathered_agree, latter_agrees, means_agree, parted_agree}
use Rattle.grammars.specs.Agreed.{same_agrees, sides_agree}
use Rattle.grammars.specs.Pairwise.{HaveSameBytes}
use Rattle.grammars.specs.Strings.{characters_agree, taken_agrees}
use Rattle.grammars.specs.Grammar.{Grammar, InClass, IsUnique}
use Rattle.grammars.specs.Grammar.Meaning.{Meaning}
use Rattle.grammars.specs.Grammar.Outputs.{token_of_alike}
use Rattle.grammars.specs.Grammar.Sequences.{three_unique}
use Rattle.grammars.specs.Grammar.Unique.{both_unique}
use Rattle.stream_sets.specs.Accumulator.Holds.{HasCharacters}

-- ---- characters

unicode_agrees : Agrees (λ c d. c ≡ d) Unicode
unicode_agrees =
    either_agrees (means_agree IsAlone (same_agrees unit_one)
    (λ o p u v e x y. x.0 ∙ e ∙ sym y.0))
    (means_agree AreSurrogatePair (same_agrees units_one)
    (λ o p u v e x y.
    x.4 ∙ ap (λ (q : ℕ × ℕ). 65536 + (q.0 - 55296) * 1024 + (q.1 - 56320)) e ∙ sym y.4))

character_agrees : Agrees (λ c d. c ≡ d) Character
character_agrees =
    either_agrees
    (same_agrees (token_of_alike (λ c. c) (InClass IsUnescaped (λ c. c)) tt (λ c d e. e)))
    (latter_agrees (char_unique 92) (either_agrees
    (means_agree StandsFor (same_agrees token_one) (λ o p u v e x y. omega (arith, e, x, y)))
    (latter_agrees (char_unique 117) unicode_agrees)))

-- ---- values that have no others in them

gap_unique : IsUnique Gap
gap_unique = run_unique IsMultispace 0

mark_unique : (c : ℕ) → IsUnique (Punctuation c)
mark_unique c = both_unique pair (char_unique c) gap_unique

word_agrees : (word : List ℕ) (o : Option Bool) → Agrees (λ a b. a ≡ b) (Word word o)
unfolding Word
word_agrees word o = record { one = λ tokens a b rest other (is, e) (was, f). is ∙ sym was }

words_agree : Agrees (λ a b. a ≡ b) AnyWord
words_agree = either_agrees (word_agrees _ _) (either_agrees (word_agrees _ _) (word_agrees _ _))

number_agrees : Agrees (λ (s t : Slice). s.now ≡ t.now) Number
number_agrees = taken_agrees _ number_unique

module _ {A : Type 0} where
  quoted_agrees : Agrees (HaveSameBytes {A = A}) (Quoted HasCharacters)
  quoted_agrees =
      between_agrees _ (char_unique 34) (characters_agree 0 character_unique character_agrees)

  same_word : (o p : Option Bool) (v w : Value A) → o ≡ p → IsWord o v → IsWord p w → v ≡ w
  same_word o p v w e is was =
      let P : Option Bool → Type 0 = λ q. IsWord q w in one o (subst P (sym e) was) is
    where
      one : (q : Option Bool) → IsWord q w → IsWord q v → v ≡ w
      one None f g = g ∙ sym f
      one (Some b) f g = g ∙ sym f

  module _ (alike : Value A → Value A → Type 0) where
    scalar_agrees : Agrees (AreAlikeBy alike) (Scalar HasCharacters)
    scalar_agrees =
        either_agrees (means_agree IsWord words_agree
        (λ o p v w e is was. inl (same_word o p v w e is was)))
        (either_agrees
        (means_agree IsNumber
        (means_agree {like = HaveSameBytes} HasText number_agrees
        (λ s t x y e is was. is ∙ e ∙ sym was))
        (λ s t v w e is was. inr (inl (s, t, is, was, e))))
        (means_agree IsString quoted_agrees
        (λ s t v w e is was. inr (inr (inl (s, t, is, was, e))))))

    module _ {g : Grammar ℕ (Value A)} (unique : IsUnique g) (agree : Agrees alike g) where
      items_agree : Agrees (AreAlikeBy alike) (Meaning IsArray (Array HasCharacters g))
      items_agree =
          means_agree IsArray (between_agrees _ (mark_unique 91) (gathered_agree (parted_agree 0
          (both_unique former unique gap_unique) (mark_unique 44) (former_agrees Gap agree))))
          (λ l m v w e is was. inr (inr (inr (inl (l, m, is, was, e)))))

      member_agrees : Agrees (AreAlikeMembers alike) (Member HasCharacters g)
      member_agrees =
          sides_agree (λ k s v. (k, v)) (both_unique former quoted_unique gap_unique)
          (mark_unique 58) (former_agrees Gap quoted_agrees) (former_agrees Gap agree)
          (λ o p m n q r names vals. (names, vals))

      member_unique : IsUnique (Member HasCharacters g)
      member_unique =
          three_unique (λ o1 o2 o3. (o1, o3)) (both_unique former quoted_unique gap_unique)
          (mark_unique 58) (both_unique former unique gap_unique)

      members_agree : Agrees (AreAlikeBy alike) (Meaning IsObject (Object HasCharacters g))
      members_agree =
          means_agree IsObject (between_agrees _ (mark_unique 123) (gathered_agree (parted_agree 0
          member_unique (mark_unique 44) member_agrees)))
          (λ l m v w e is was. inr (inr (inr (inr (l, m, is, was, e)))))

  value_agrees : (level : ℕ) → Agrees (AreAlike level) (AnyValue {A = A} HasCharacters level)
  unfolding AnyValue AreAlike
  value_agrees zero = scalar_agrees (λ v w. v ≡ w)
  value_agrees (suc level) =
      either_agrees (scalar_agrees (AreAlike level))
      (either_agrees (items_agree (AreAlike level) (value_unique level) (value_agrees level))
      (members_agree (AreAlike level) (value_unique level) (value_agrees level)))

  pub texts_alike : (level : ℕ) (v w : Value A) (tokens : List ℕ)
      → JsonText HasCharacters level v tokens → JsonText HasCharacters level w tokens
      → AreAlike level v w
  texts_alike level v w tokens a b =
      (latter_agrees gap_unique (former_agrees Gap (value_agrees level))).one (tokens ++ []) v w []
      [] ((json_of HasCharacters level).back v tokens [] a tt)
      ((json_of HasCharacters level).back w tokens [] b tt)
