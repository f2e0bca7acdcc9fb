-- Which value is read, by the level and the character that is first.
use Rattle.std.specs.Prelude.{◌≡◌, ◌<◌, ℕ, zero, suc, Result}
use Rattle.std.proofs.Common.{sym, subst, arith}
use Rattle.format_toml.specs.Grammars.{AnyValue, Array, Inline, Scalar}
use Rattle.format_toml.specs.Toml.{IsArray, IsInline}
use Rattle.format_toml_tree.specs.declared.value.Value.{Value}
use Rattle.winnow_core.specs.Exact.{Reads}
use Rattle.grammars.specs.Grammar.Meaning.{Meaning}
use Rattle.streams.specs.Input.{Input}
use Rattle.streams.specs.Kind.{Kind}
use Rattle.streams.specs.Text.{text_reading}
use Rattle.grammars.specs.Texts.{StartsWith, NotFirst}
use Rattle.format_toml.proofs.LedLemmas.{reads_led, reads_other}

module _ {A E : Type 0} {kind : E → Kind} {i j : Input ℕ} {result : Result (Value A) E} where
  -- where no level is left it is one that has no others in it
  pub value_last : (level : ℕ) → level ≡ 0 → Reads text_reading kind Scalar i result j
      → Reads text_reading kind (AnyValue level) i result j
  unfolding AnyValue
  value_last zero is r = r
  value_last (suc level) is r = absurd (omega (arith, is))

  -- and where no bracket and no brace is first
  pub value_scalar : (level : ℕ) → 0 < level → NotFirst (λ c. c ≡ 91) i.left.tokens
      → NotFirst (λ c. c ≡ 123) i.left.tokens → Reads text_reading kind Scalar i result j
      → Reads text_reading kind (AnyValue level) i result j
  unfolding AnyValue
  value_scalar zero some array inline r = absurd (omega (arith, some))
  value_scalar (suc level) some array inline r =
      reads_other _ _ _ array (reads_other _ _ _ inline r)

  array_read : (below : ℕ) → StartsWith (λ c. c ≡ 91) i.left.tokens
      → Reads text_reading kind (Meaning IsArray (Array (AnyValue below))) i result j
      → Reads text_reading kind (AnyValue (suc below)) i result j
  unfolding AnyValue
  array_read below first r = reads_led _ _ _ first r

  inline_read : (below : ℕ) → NotFirst (λ c. c ≡ 91) i.left.tokens
      → StartsWith (λ c. c ≡ 123) i.left.tokens
      → Reads text_reading kind (Meaning IsInline (Inline (AnyValue below))) i result j
      → Reads text_reading kind (AnyValue (suc below)) i result j
  unfolding AnyValue
  inline_read below array first r = reads_other _ _ _ array (reads_led _ _ _ first r)

  pub value_array : {level below : ℕ} → level ≡ suc below → StartsWith (λ c. c ≡ 91) i.left.tokens
      → Reads text_reading kind (Meaning IsArray (Array (AnyValue below))) i result j
      → Reads text_reading kind (AnyValue level) i result j
  value_array {level} {below} is first r =
      let P : ℕ → Type 0 = λ l. Reads text_reading kind (AnyValue l) i result j in
      subst P (sym is) (array_read below first r)

  pub value_inline : {level below : ℕ} → level ≡ suc below
      → NotFirst (λ c. c ≡ 91) i.left.tokens → StartsWith (λ c. c ≡ 123) i.left.tokens
      → Reads text_reading kind (Meaning IsInline (Inline (AnyValue below))) i result j
      → Reads text_reading kind (AnyValue level) i result j
  value_inline {level} {below} is array first r =
      let P : ℕ → Type 0 = λ l. Reads text_reading kind (AnyValue l) i result j in
      subst P (sym is) (inline_read below array first r)
