-- Which value is read, by the level and the character that is first.
use Rattle.std.specs.Prelude.{◌≡◌, ◌⊎◌, ◌<◌, ℕ, zero, suc, true, false, List, [], ◌∷◌}
use Rattle.std.specs.Prelude.{Some, None, Result}
use Rattle.std.proofs.Common.{refl, sym, subst, inl, inr, arith}
use Rattle.streams.specs.Input.{Input}
use Rattle.streams.specs.Kind.{Kind}
use Rattle.streams.specs.Text.{text_reading}
use Rattle.format_json_values.specs.FirstOfScalar.{IsNumeric, scalar_of}
use Rattle.format_json_texts.specs.Number.{number_begins}
use Rattle.format_json_texts.specs.Strings.{string_begins}
use Rattle.format_json_texts.specs.Values.{AnyValue, Array, Gap, HasText, IsArray, IsNumber}
use Rattle.format_json_texts.specs.Values.{IsObject}
use Rattle.format_json_texts.specs.Values.{IsString, IsWord, Object, Punctuation, Scalar}
use Rattle.format_json_texts.specs.Values.{ScalarText}
use Rattle.format_json_texts.specs.Values.{WordText}
use Rattle.format_parts.specs.Words.{Char, char_of, for_front, pair}
use Rattle.format_json_texts.specs.declared.value.Value.{Value}
use Rattle.format_json_values.specs.General.{none_both, none_three}
use Rattle.winnow_core.specs.Exact.{Reads}
use Rattle.winnow_grammar.specs.Read.{neither_stands, reads_former, reads_other}
use Rattle.grammars.specs.Grammar.{Grammar, NoMatch, Three}
use Rattle.grammars.specs.Grammar.Meaning.{Meaning, none_means}
use Rattle.stream_sets.specs.Accumulator.Holds.{HasCharacters}
use Rattle.grammars.specs.Texts.{StartsWith, TextsStartWith, NotFirst}
use Rattle.grammars.specs.Texts.Fronts.{begins_more, begins_wider, either_front, may_begin}
use Rattle.grammars.specs.Texts.Fronts.{none_begins, not_first, spelled_begins}
use Rattle.format_json_values.specs.First.{IsOpening}

-- ---- values that have no others in them do not begin so

apart : (c n : ℕ) → c ≡ n → (n < 91) ⊎ ((91 < n) × (n < 123)) → IsOpening c → ⊥
apart c n e (inl low) (inl f) = absurd (omega (arith, e, low, f))
apart c n e (inl low) (inr f) = absurd (omega (arith, e, low, f))
apart c n e (inr high) (inl f) = absurd (omega (arith, e, high, f))
apart c n e (inr high) (inr f) = absurd (omega (arith, e, high, f))

numeric_apart : (c : ℕ) → IsNumeric c → IsOpening c → ⊥
numeric_apart c (inl e) = apart c 45 e (inl (omega arith))
numeric_apart c (inr d) = apart c c refl (inl (omega (arith, d)))

words_apart : TextsStartWith (λ c. IsOpening c → ⊥) WordText
words_apart =
    either_front (begins_wider (λ c e. apart c 110 e (inr (omega arith)))
    (spelled_begins 110 (117 ∷ 108 ∷ 108 ∷ []) None))
    (either_front (begins_wider (λ c e. apart c 116 e (inr (omega arith)))
    (spelled_begins 116 (114 ∷ 117 ∷ 101 ∷ []) (Some true)))
    (begins_wider (λ c e. apart c 102 e (inr (omega arith)))
    (spelled_begins 102 (97 ∷ 108 ∷ 115 ∷ 101 ∷ []) (Some false))))

module _ {A : Type 0} where
  scalar_apart : TextsStartWith (λ c. IsOpening c → ⊥) (ScalarText {A = A} HasCharacters)
  scalar_apart =
      either_front (for_front IsWord words_apart)
      (either_front (for_front IsNumber
      (for_front HasText (begins_wider numeric_apart number_begins)))
      (for_front IsString (begins_wider (λ c e. apart c 34 e (inl (omega arith)))
      (string_begins HasCharacters))))

  no_scalar : (tokens : List ℕ) → StartsWith IsOpening tokens
      → NoMatch (Scalar {A = A} HasCharacters) tokens
  no_scalar tokens first =
      none_begins scalar_of scalar_apart tokens
      (may_begin IsOpening (λ c. (IsOpening c → ⊥) → ⊥) (λ c is not. not is) tokens first)

-- ---- nothing else begins an array or an object

none_marked : {O : Type 0} (opening closing : ℕ) (g : Grammar ℕ O) (tokens : List ℕ)
    → NotFirst (λ c. c ≡ opening) tokens
    → NoMatch (Three (λ o1 o2 o3. o2) (Punctuation opening) g (Char closing)) tokens
none_marked opening closing g tokens not =
    none_three (λ o1 o2 o3. o2) (Punctuation opening) g (Char closing) tokens
    (none_both pair (Char opening) Gap tokens
    (none_begins (char_of opening) (spelled_begins opening [] opening) tokens not))

module _ {A : Type 0} (g : Grammar ℕ (Value A)) (tokens : List ℕ) where
  no_array : NotFirst (λ c. c ≡ 91) tokens
      → NoMatch (Meaning IsArray (Array HasCharacters g)) tokens
  no_array not = none_means IsArray _ tokens (none_marked 91 93 _ tokens not)

  no_object : NotFirst (λ c. c ≡ 123) tokens
      → NoMatch (Meaning IsObject (Object HasCharacters g)) tokens
  no_object not = none_means IsObject _ tokens (none_marked 123 125 _ tokens not)

-- ---- so a value is read by its first character

module _ {A E : Type 0} {kind : E → Kind} {i j : Input ℕ} {result : Result (Value A) E} where
  pub value_scalar : (level : ℕ) → (level ≡ 0) ⊎ NotFirst IsOpening i.left.tokens
      → Reads text_reading kind (Scalar HasCharacters) i result j
      → Reads text_reading kind (AnyValue HasCharacters level) i result j
  unfolding AnyValue
  value_scalar zero other r = r
  value_scalar (suc level) (inl never) r = absurd (omega (arith, never))
  value_scalar (suc level) (inr not) r =
      reads_former _ _ (neither_stands _ _ i.left.tokens
      (no_array _ i.left.tokens
      (not_first (λ c. c ≡ 91) IsOpening (λ c e. inl e) i.left.tokens not))
      (no_object _ i.left.tokens
      (not_first (λ c. c ≡ 123) IsOpening (λ c e. inr e) i.left.tokens not))) r

  array_read : (below : ℕ) → StartsWith (λ c. c ≡ 91) i.left.tokens
      → Reads text_reading kind
      (Meaning IsArray (Array HasCharacters (AnyValue HasCharacters below))) i result j
      → Reads text_reading kind (AnyValue HasCharacters (suc below)) i result j
  unfolding AnyValue
  array_read below first r =
      reads_other _ _ (no_scalar i.left.tokens
      (begins_more (λ c. c ≡ 91) IsOpening (λ c e. inl e) i.left.tokens first))
      (reads_former _ _ (no_object _ i.left.tokens
      (may_begin (λ c. c ≡ 91) (λ c. c ≡ 123 → ⊥) (λ c e f. absurd (omega (arith, e, f)))
      i.left.tokens first)) r)

  -- and where no bracket does, but something, an object
  object_read : (below : ℕ) → StartsWith IsOpening i.left.tokens
      → NotFirst (λ c. c ≡ 91) i.left.tokens → Reads text_reading kind
      (Meaning IsObject (Object HasCharacters (AnyValue HasCharacters below))) i result j
      → Reads text_reading kind (AnyValue HasCharacters (suc below)) i result j
  unfolding AnyValue
  object_read below first not r =
      reads_other _ _ (no_scalar i.left.tokens first)
      (reads_other _ _ (no_array _ i.left.tokens not) r)

  pub value_array : {level below : ℕ} → level ≡ suc below → StartsWith (λ c. c ≡ 91) i.left.tokens
      → Reads text_reading kind
      (Meaning IsArray (Array HasCharacters (AnyValue HasCharacters below))) i result j
      → Reads text_reading kind (AnyValue HasCharacters level) i result j
  value_array {level} {below} is first r =
      let P : ℕ → Type 0 = λ l. Reads text_reading kind (AnyValue HasCharacters l) i result j in
      subst P (sym is) (array_read below first r)

  pub value_object : {level below : ℕ} → level ≡ suc below → StartsWith IsOpening i.left.tokens
      → NotFirst (λ c. c ≡ 91) i.left.tokens → Reads text_reading kind
      (Meaning IsObject (Object HasCharacters (AnyValue HasCharacters below))) i result j
      → Reads text_reading kind (AnyValue HasCharacters level) i result j
  value_object {level} {below} is first not r =
      let P : ℕ → Type 0 = λ l. Reads text_reading kind (AnyValue HasCharacters l) i result j in
      subst P (sym is) (object_read below first not r)
