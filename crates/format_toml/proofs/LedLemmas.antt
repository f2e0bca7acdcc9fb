-- One of two, by the character that is first.
use Rattle.std.specs.Prelude.{ℕ, List, Result, Ok, Err}
use Rattle.std.proofs.Common.{inl, inr}
use Rattle.winnow_core.specs.Exact.{Reads}
use Rattle.grammars.specs.Grammar.{Grammar}
use Rattle.streams.specs.Input.{Input}
use Rattle.streams.specs.Kind.{Kind}
use Rattle.streams.specs.Text.{text_reading}
use Rattle.grammars.specs.Texts.{StartsWith, TextsStartWith, EitherText, InFront, IsGrammarOf}
use Rattle.grammars.specs.Texts.{NotFirst, Text}
use Rattle.grammars.specs.Texts.Fronts.{begins_never}
use Rattle.format_toml.specs.Led.{Led}

module _ {O : Type 0} {g h : Grammar ℕ O} {these : ℕ → Type 0} where
  pub led_of : {first second : Text ℕ O} {follow : List ℕ → Type 0} → IsGrammarOf g first follow
      → IsGrammarOf h second follow → TextsStartWith these first
      → InFront second follow (NotFirst these)
      → IsGrammarOf (Led these g h) (EitherText first second) follow
  unfolding Led EitherText
  led_of one two begins outside = record {
    there = λ tokens o rest it. elim it [
      | inl (b, x) ↦ let (front, e, a) = one.there tokens o rest x in (front, e, inl a)
      | inr (n, y) ↦ let (front, e, b) = two.there tokens o rest y in (front, e, inr b)
    ];
    back = λ o front rest it behind. elim it [
      | inl a ↦ inl (begins.makes o front rest a tt, one.back o front rest a behind)
      | inr b ↦ inr (outside.makes o front rest b behind, two.back o front rest b behind)
    ];
  }

-- of grammars with the same matches at this input
module _ {O E : Type 0} (g h : Grammar ℕ O) {kind : E → Kind} {i j : Input ℕ}
    (there : (o : O) (rest : List ℕ) → g i.left.tokens o rest → h i.left.tokens o rest)
    (back : (o : O) (rest : List ℕ) → h i.left.tokens o rest → g i.left.tokens o rest) where
  reads_here : {result : Result O E} → Reads text_reading kind g i result j
      → Reads text_reading kind h i result j
  reads_here {result = Ok o} r = record {
    ends = r.ends;
    stands = λ whole. there o j.left.tokens (r.stands whole);
    none = λ whole. tt;
  }
  reads_here {result = Err e} r = record {
    ends = r.ends;
    stands = λ whole. tt;
    none = λ whole. elim (r.none whole) [
      | inl m ↦ inl m
      | inr (b, none) ↦ inr (b, λ o rest x. none o rest (back o rest x))
    ];
  }

module _ {O : Type 0} (these : ℕ → Type 0) (g h : Grammar ℕ O) {E : Type 0} {kind : E → Kind}
    {i j : Input ℕ} {result : Result O E} where
  pub reads_led : StartsWith these i.left.tokens → Reads text_reading kind g i result j
      → Reads text_reading kind (Led these g h) i result j
  unfolding Led
  reads_led first = reads_here g (Led these g h) (λ o rest x. inl (first, x))
      (λ o rest it. elim it [
        | inl (b, x) ↦ x
        | inr (n, x) ↦ begins_never these i.left.tokens first n
      ])

  pub reads_other : NotFirst these i.left.tokens → Reads text_reading kind h i result j
      → Reads text_reading kind (Led these g h) i result j
  unfolding Led
  reads_other not = reads_here h (Led these g h) (λ o rest x. inr (not, x)) (λ o rest it. elim it [
    | inl (b, x) ↦ begins_never these i.left.tokens b not
    | inr (n, x) ↦ x
  ])
