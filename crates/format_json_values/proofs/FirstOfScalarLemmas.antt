-- Which of two is read, by the character that is first.
use Rattle.std.specs.Prelude.{◌≡◌, ◌<◌, ℕ, List, [], ◌∷◌, Option, Some, None, Result}
use Rattle.std.specs.Prelude.{Bool, false, true}
use Rattle.std.proofs.Common.{arith, inl, inr, refl, subst}
use Rattle.std.specs.Str.{chars}
use Rattle.streams.specs.Input.{Input}
use Rattle.streams.specs.Kind.{Kind}
use Rattle.streams.specs.Text.{text_reading}
use Rattle.format_json_texts.specs.Number.{Number, number_begins, number_of}
use Rattle.format_json_texts.specs.Strings.{Quoted, string_begins, string_of}
use Rattle.format_json_texts.specs.Values.{AnyWord, HasText, IsNumber, IsString, IsWord}
use Rattle.format_json_texts.specs.Values.{Scalar}
use Rattle.format_parts.specs.Words.{Word}
use Rattle.format_json_texts.specs.declared.value.Value.{Value}
use Rattle.winnow_core.specs.Exact.{Reads}
use Rattle.winnow_grammar.specs.Read.{neither_stands, reads_former, reads_other}
use Rattle.grammars.specs.Grammar.{NoMatch}
use Rattle.grammars.specs.Grammar.Meaning.{Meaning, none_means}
use Rattle.stream_sets.specs.Accumulator.Holds.{HasCharacters}
use Rattle.grammars.specs.Texts.{StartsWith, NotFirst}
use Rattle.grammars.specs.Texts.Fronts.{may_begin, none_begins}
use Rattle.format_json_values.specs.FirstOfScalar.{IsNumeric}

-- ---- words

no_word : {O : Type 0} (c : ℕ) (more : List ℕ) (output : O) (tokens : List ℕ)
    → NotFirst (λ x. x ≡ c) tokens → NoMatch (Word (c ∷ more) output) tokens
unfolding Word
no_word c more output tokens not o rest (is, e) =
    let P : List ℕ → Type 0 = λ l. NotFirst (λ x. x ≡ c) l in subst P e not refl

-- what begins with one character begins with no other
not_another : (a b : ℕ) → (a ≡ b → ⊥) → (tokens : List ℕ) → StartsWith (λ x. x ≡ a) tokens
    → NotFirst (λ x. x ≡ b) tokens
not_another a b apart =
    may_begin (λ x. x ≡ a) (λ x. x ≡ b → ⊥) (λ c e f. apart (omega (arith, e, f)))

module _ {E : Type 0} {kind : E → Kind} {i j : Input ℕ} {result : Result (Option Bool) E} where
  pub word_null : StartsWith (λ x. x ≡ 110) i.left.tokens
      → Reads text_reading kind (Word (chars (110 ∷ 117 ∷ 108 ∷ 108 ∷ [])) None) i result j
      → Reads text_reading kind AnyWord i result j
  unfolding chars
  word_null first r =
      let other : (b : ℕ) → (110 ≡ b → ⊥) → NotFirst (λ x. x ≡ b) i.left.tokens =
      λ b apart. not_another 110 b apart i.left.tokens first in
      reads_former _ _ (neither_stands _ _ _
      (no_word 116 _ (Some true) i.left.tokens (other 116 (λ e. omega (arith, e))))
      (no_word 102 _ (Some false) i.left.tokens (other 102 (λ e. omega (arith, e))))) r

  pub word_true : StartsWith (λ x. x ≡ 116) i.left.tokens
      → Reads text_reading kind (Word (chars (116 ∷ 114 ∷ 117 ∷ 101 ∷ [])) (Some true)) i result j
      → Reads text_reading kind AnyWord i result j
  unfolding chars
  word_true first r =
      let other : (b : ℕ) → (116 ≡ b → ⊥) → NotFirst (λ x. x ≡ b) i.left.tokens =
      λ b apart. not_another 116 b apart i.left.tokens first in
      reads_other _ _ (no_word 110 _ None i.left.tokens (other 110 (λ e. omega (arith, e))))
      (reads_former _ _ (no_word 102 _ (Some false) i.left.tokens
      (other 102 (λ e. omega (arith, e)))) r)

  pub word_false : NotFirst (λ x. x ≡ 110) i.left.tokens → NotFirst (λ x. x ≡ 116) i.left.tokens
      → Reads text_reading kind (Word (chars (102 ∷ 97 ∷ 108 ∷ 115 ∷ 101 ∷ [])) (Some false)) i
      result j
      → Reads text_reading kind AnyWord i result j
  unfolding chars
  word_false first second r =
      reads_other _ _ (no_word 110 _ None i.left.tokens first)
      (reads_other _ _ (no_word 116 _ (Some true) i.left.tokens second) r)

-- ---- values that have no others in them

no_words : (tokens : List ℕ) → NotFirst (λ x. x ≡ 110) tokens → NotFirst (λ x. x ≡ 116) tokens
    → NotFirst (λ x. x ≡ 102) tokens → NoMatch AnyWord tokens
no_words tokens n t f =
    neither_stands _ _ _ (no_word 110 _ None tokens n)
    (neither_stands _ _ _ (no_word 116 _ (Some true) tokens t)
    (no_word 102 _ (Some false) tokens f))

module _ {A : Type 0} where
  no_word_value : (these : ℕ → Type 0) → ((c : ℕ) → these c → c < 91) → (tokens : List ℕ)
      → StartsWith these tokens → NoMatch (Meaning (IsWord {A = A}) AnyWord) tokens
  no_word_value these below tokens first =
      let other : (b : ℕ) → 90 < b → NotFirst (λ x. x ≡ b) tokens = λ b more.
      may_begin these (λ x. x ≡ b → ⊥) (λ c is e. omega (arith, more, below c is, e)) tokens first
      in none_means (IsWord {A = A}) _ _ (no_words tokens (other 110 (omega arith))
      (other 116 (omega arith)) (other 102 (omega arith)))

  no_number_value : (tokens : List ℕ) → NotFirst IsNumeric tokens
      → NoMatch (Meaning (IsNumber {A = A}) (Meaning HasText Number)) tokens
  no_number_value tokens not =
      none_means (IsNumber {A = A}) _ _ (none_means HasText _ _
      (none_begins number_of number_begins tokens not))

  no_string_value : (tokens : List ℕ) → NotFirst (λ c. c ≡ 34) tokens
      → NoMatch (Meaning (IsString {A = A}) (Quoted HasCharacters)) tokens
  no_string_value tokens not =
      none_means (IsString {A = A}) _ _
      (none_begins (string_of HasCharacters) (string_begins HasCharacters) tokens not)

numeric_below : (c : ℕ) → IsNumeric c → c < 91
numeric_below c (inl e) = omega (arith, e)
numeric_below c (inr (low, high)) = omega (arith, high)

quote_numeric : (c : ℕ) → c ≡ 34 → IsNumeric c → ⊥
quote_numeric c x (inl e) = absurd (omega (arith, x, e))
quote_numeric c x (inr e) = absurd (omega (arith, x, e))

numeric_quote : (c : ℕ) → IsNumeric c → c ≡ 34 → ⊥
numeric_quote c is x = quote_numeric c x is

module _ {A E : Type 0} {kind : E → Kind} {i j : Input ℕ} {result : Result (Value A) E} where
  pub scalar_string : StartsWith (λ c. c ≡ 34) i.left.tokens
      → Reads text_reading kind (Meaning IsString (Quoted HasCharacters)) i result j
      → Reads text_reading kind (Scalar HasCharacters) i result j
  scalar_string first r =
      reads_other _ _ (no_word_value (λ c. c ≡ 34) (λ c e. omega (arith, e)) i.left.tokens first)
      (reads_other _ _ (no_number_value i.left.tokens
      (may_begin (λ c. c ≡ 34) (λ c. IsNumeric c → ⊥) quote_numeric i.left.tokens first)) r)

  pub scalar_number : StartsWith IsNumeric i.left.tokens
      → Reads text_reading kind (Meaning IsNumber (Meaning HasText Number)) i result j
      → Reads text_reading kind (Scalar HasCharacters) i result j
  scalar_number first r =
      reads_other _ _ (no_word_value IsNumeric numeric_below i.left.tokens first)
      (reads_former _ _ (no_string_value i.left.tokens
      (may_begin IsNumeric (λ c. c ≡ 34 → ⊥) numeric_quote i.left.tokens first)) r)

  pub scalar_word : NotFirst (λ c. c ≡ 34) i.left.tokens → NotFirst IsNumeric i.left.tokens
      → Reads text_reading kind (Meaning IsWord AnyWord) i result j
      → Reads text_reading kind (Scalar HasCharacters) i result j
  scalar_word first second r =
      reads_former _ _ (neither_stands _ _ _ (no_number_value i.left.tokens second)
      (no_string_value i.left.tokens first)) r
