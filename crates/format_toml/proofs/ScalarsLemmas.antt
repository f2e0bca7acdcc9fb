-- The grammars of values that have no others in them are those of what is written.
use Rattle.std.specs.Prelude.{◌≡◌, ◌⊎◌, ◌<◌, ℕ, Bool, true, false, List, [], ◌∷◌, ◌++◌}
use Rattle.std.specs.List.{All}
use Rattle.std.proofs.Common.{ap, arith, inl, inr, refl, subst, sym}
use Rattle.std.proofs.lemmas.List.Elements.{All-tail}
use Rattle.stream_sets.specs.AsChar.{IsSpace}
use Rattle.format_parts.specs.Words.{For, Run, Word, for_front, for_of}
use Rattle.format_toml.specs.Grammars.{AnyBasic, AnyBoolean, AnyLiteral, Plain, Scalar}
use Rattle.format_toml.specs.Led.{Led}
use Rattle.format_toml.specs.Times.{NoTime}
use Rattle.format_toml.specs.Toml.{AnyBasicText, AnyLiteralText, BooleanText, GapPartText, GapText}
use Rattle.format_toml.specs.Toml.{IsBoolean, IsText, IsUnquoted, PlainText, ScalarText, WsText}
use Rattle.format_toml.specs.Toml.{false_word, true_word}
use Rattle.streams.specs.Equal.{same_others}
use Rattle.grammars.specs.Grammar.Meaning.{Meaning}
use Rattle.grammars.specs.Texts.{StartsWith, TextsStartWith, EitherText, InFront, IsGrammarOf}
use Rattle.grammars.specs.Texts.{NotFirst, Spelled, TokenOfText}
use Rattle.grammars.specs.Texts.Fronts.{begins_wider, either_front, front_begins, front_behind}
use Rattle.grammars.specs.Texts.Fronts.{may_begin, not_first, spelled_begins}
use Rattle.grammars.specs.Texts.Parts.{behind_less}
use Rattle.format_toml.proofs.LedLemmas.{led_of}
use Rattle.format_toml.proofs.LongKindsLemmas.{any_basic_begins, any_basic_of, any_literal_begins}
use Rattle.format_toml.proofs.LongKindsLemmas.{any_literal_of}
use Rattle.format_toml.proofs.PlainLemmas.{plain_begins, plain_of}
use Rattle.format_toml.proofs.SpacesLemmas.{IsTail, OpensGap, Past, WidePast, ended_begins}
use Rattle.format_toml.proofs.SpacesLemmas.{gap_front}
use Rattle.format_toml.proofs.TimesLemmas.{EndsPlain}
use Rattle.format_toml.specs.Scalars.{ContinuesScalar, Goes}

-- ---- what continues a word or a number

-- what ends a number, a date or a string
goes_plain : (rest : List ℕ) → Goes rest → EndsPlain rest
goes_plain rest goes = (not_first IsUnquoted ContinuesScalar (λ c u. inl u) rest goes.0, goes.1)

goes_basic : (rest : List ℕ) → Goes rest → NotFirst (λ c. c ≡ 34) rest
goes_basic rest goes = not_first (λ c. c ≡ 34) ContinuesScalar (λ c e. inr (inl e)) rest goes.0

goes_literal : (rest : List ℕ) → Goes rest → NotFirst (λ c. c ≡ 39) rest
goes_literal rest goes = not_first (λ c. c ≡ 39) ContinuesScalar (λ c e. inr (inr e)) rest goes.0

-- ---- whitespace after a value

-- no time is there where no space is first
no_time : (rest : List ℕ) → NotFirst IsSpace rest → NoTime rest
no_time rest not a b more one other e =
    let P : List ℕ → Type 0 = λ l. NotFirst IsSpace l in subst P e not (inl refl)

-- nor after whitespace
space_more : (c : ℕ) (rest : List ℕ) → IsSpace c → Goes rest → Goes (c ∷ rest)
space_more c rest is goes = (
  λ g. omega arith,
  λ a b more one other e.
      let P : List ℕ → Type 0 = λ l. NotFirst ContinuesScalar l in
      subst P (same_others e) goes.0 (inl (inl (omega (arith, one)))),
)

past_goes : (rest : List ℕ) → Past ContinuesScalar rest → Goes rest
past_goes rest past = (
  not_first ContinuesScalar (λ c. IsSpace c ⊎ ContinuesScalar c) (λ c g. inr g) rest past,
  no_time rest (not_first IsSpace (λ c. IsSpace c ⊎ ContinuesScalar c) (λ c s. inl s) rest past),
)

wide_goes : (rest : List ℕ) → WidePast ContinuesScalar rest → Goes rest
wide_goes rest past = (
  not_first ContinuesScalar (λ c. OpensGap c ⊎ ContinuesScalar c) (λ c g. inr g) rest past,
  no_time rest (not_first IsSpace (λ c. OpensGap c ⊎ ContinuesScalar c) (λ c s. inl (inl s))
      rest past),
)

tail_more : (tokens : List ℕ) → StartsWith IsTail tokens → Goes tokens
tail_more tokens begins = (
  may_begin IsTail (λ c. ContinuesScalar c → ⊥) (λ c t g. omega arith) tokens begins,
  no_time tokens (may_begin IsTail (λ c. IsSpace c → ⊥) (λ c t s. omega arith) tokens begins),
)

-- it may be on the line
pub white_front : InFront WsText (Past ContinuesScalar) Goes
unfolding Run
white_front = record { makes = λ slice xs rest x past. first xs rest x.0 past }
  where
    first : (xs rest : List ℕ) → All IsSpace xs → Past ContinuesScalar rest → Goes (xs ++ rest)
    first [] rest all past = past_goes rest past
    first (x ∷ xs) rest all past =
        space_more x (xs ++ rest) (all 0 x (omega arith))
        (first xs rest (All-tail IsSpace x xs all) past)

part_front : InFront GapPartText Goes Goes
unfolding EitherText TokenOfText
part_front = record { makes = makes }
  where
    makes : (c : ℕ) (xs rest : List ℕ) → GapPartText c xs → Goes rest → Goes (xs ++ rest)
    makes c xs rest (inl (is, e)) goes =
        let P : List ℕ → Type 0 = λ l. Goes (l ++ rest) in
        subst P (sym e) (space_more c rest is goes)
    makes c xs rest (inr ended) goes =
        tail_more (xs ++ rest) (ended_begins.makes c xs rest ended tt)

-- or over lines
pub wide_front : InFront GapText (WidePast ContinuesScalar) Goes
wide_front = front_behind wide_goes (gap_front part_front)

-- ---- values that have no others in them

word_of : {O : Type 0} (word : List ℕ) (output : O)
    → IsGrammarOf (Word word output) (Spelled word output) Goes
unfolding Word Spelled
word_of word output = record {
  there = λ tokens o rest (is, e). (word, e, (is, refl));
  back = λ o front rest (is, e) any. (is, ap (λ l. l ++ rest) e);
}

-- ---- values that have no others in them

-- a character between two others that opens and closes no array, and no comment
abbrev pub Amid : ℕ → ℕ → ℕ → Type 0
Amid low high c = (low < c) × (c < high) × (c ≡ 91 → ⊥) × (c ≡ 93 → ⊥) × (c ≡ 35 → ⊥)

module _ {A : Type 0} where
  basic_of : IsGrammarOf (Meaning IsText (AnyBasic {A = A})) (For IsText AnyBasicText) Goes
  basic_of = behind_less goes_basic (for_of IsText any_basic_of)

  literal_of : IsGrammarOf (Meaning IsText (AnyLiteral {A = A})) (For IsText AnyLiteralText) Goes
  literal_of = behind_less goes_literal (for_of IsText any_literal_of)

  basic_begins : TextsStartWith (λ c. c ≡ 34) (For IsText (AnyBasicText {A = A}))
  basic_begins = for_front IsText any_basic_begins

  literal_begins : TextsStartWith (λ c. c ≡ 39) (For IsText (AnyLiteralText {A = A}))
  literal_begins = for_front IsText any_literal_begins

  boolean_of : (word : List ℕ) (is : Bool)
      → IsGrammarOf (AnyBoolean {A = A} word is) (BooleanText word is) Goes
  boolean_of word is = for_of IsBoolean (word_of word is)

  boolean_begins : (first : ℕ) (word : List ℕ) (is : Bool)
      → TextsStartWith (λ c. c ≡ first) (BooleanText {A = A} (first ∷ word) is)
  boolean_begins first word is = for_front IsBoolean (spelled_begins first word is)

  -- ---- alternatives, by their first characters

  after_true_of : IsGrammarOf (Led (λ c. c ≡ 102) (AnyBoolean {A = A} false_word false) Plain)
      (EitherText (BooleanText false_word false) PlainText) Goes
  after_true_of =
      led_of (boolean_of false_word false) (behind_less goes_plain plain_of)
      (boolean_begins 102 _ false) (front_begins (λ c n e. omega arith) plain_begins)

  after_true_begins : TextsStartWith (Amid 42 112)
      (EitherText (BooleanText {A = A} false_word false) PlainText)
  after_true_begins =
      either_front (begins_wider (λ c e. omega arith) (boolean_begins 102 _ false))
      (begins_wider (λ c n. omega arith) plain_begins)

  after_literal_of : IsGrammarOf (Led (λ c. c ≡ 116) (AnyBoolean {A = A} true_word true)
      (Led (λ c. c ≡ 102) (AnyBoolean false_word false) Plain))
      (EitherText (BooleanText true_word true)
      (EitherText (BooleanText false_word false) PlainText)) Goes
  after_literal_of =
      led_of (boolean_of true_word true) after_true_of (boolean_begins 116 _ true)
      (front_begins (λ c a e. omega arith) after_true_begins)

  after_literal_begins : TextsStartWith (Amid 42 117)
      (EitherText (BooleanText {A = A} true_word true)
      (EitherText (BooleanText false_word false) PlainText))
  after_literal_begins =
      either_front (begins_wider (λ c e. omega arith) (boolean_begins 116 _ true))
      (begins_wider (λ c a. omega arith) after_true_begins)

  after_basic_of : IsGrammarOf (Led (λ c. c ≡ 39) (Meaning IsText (AnyLiteral {A = A}))
      (Led (λ c. c ≡ 116) (AnyBoolean true_word true)
      (Led (λ c. c ≡ 102) (AnyBoolean false_word false) Plain)))
      (EitherText (For IsText AnyLiteralText)
      (EitherText (BooleanText true_word true)
      (EitherText (BooleanText false_word false) PlainText))) Goes
  after_basic_of =
      led_of literal_of after_literal_of literal_begins
      (front_begins (λ c a e. omega arith) after_literal_begins)

  after_basic_begins : TextsStartWith (Amid 38 117)
      (EitherText (For IsText (AnyLiteralText {A = A}))
      (EitherText (BooleanText true_word true)
      (EitherText (BooleanText false_word false) PlainText)))
  after_basic_begins =
      either_front (begins_wider (λ c e. omega arith) literal_begins)
      (begins_wider (λ c a. omega arith) after_literal_begins)

  pub scalar_of : IsGrammarOf (Scalar {A = A}) ScalarText Goes
  scalar_of =
      led_of basic_of after_basic_of basic_begins
      (front_begins (λ c a e. omega arith) after_basic_begins)

  pub scalar_begins : TextsStartWith (Amid 33 117) (ScalarText {A = A})
  scalar_begins =
      either_front (begins_wider (λ c e. omega arith) basic_begins)
      (begins_wider (λ c a. omega arith) after_basic_begins)
