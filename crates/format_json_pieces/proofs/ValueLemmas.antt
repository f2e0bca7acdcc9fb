-- JSON values at the start of bytes, and JSON texts in bytes.
use Rattle.std.specs.Prelude.{◌≡◌, ℕ, List, ◌++◌, Option, Some, None}
use Rattle.std.proofs.Common.{refl, sym, ap, ◌∙◌, append_assoc}
use Rattle.std.proofs.lemmas.List.{append-nil}
use Rattle.format_json_texts.specs.Number.{ContinuesNumber}
use Rattle.format_json_texts.specs.Values.{ValueText}
use Rattle.format_json_texts.specs.declared.value.Value.{Value}
use Rattle.stream_sets.specs.Accumulator.Holds.{HasCharacters}
use Rattle.grammars.specs.Texts.{IsGrammarOf, NotFirst}
use Rattle.format_json_pieces.specs.Value.{InUtf8, IsValueIn, IsNextOrNone}

-- ---- matches are encodings

-- An encoding of a value matches wherever no byte follows it that can continue a number.
pub value_written : {A : Type 0} (level : ℕ)
    → IsGrammarOf (IsValueIn {A = A} level) (InUtf8 (ValueText HasCharacters level))
    (NotFirst ContinuesNumber)
unfolding IsValueIn
value_written level = record {
  there = λ bytes v rest (text, written, e, ended). (text, e, written);
  back = λ v front rest written not. (front, written, refl, λ begins. not);
}

-- ---- the rest is a suffix of the bytes

module _ {A : Type 0} (level : ℕ) where
  pub value_ends : (bytes : List ℕ) (v : Value A) (rest : List ℕ) → IsValueIn level bytes v rest
      → (front : List ℕ) × (bytes ≡ front ++ rest)
  unfolding IsValueIn
  value_ends bytes v rest (text, written, e, ended) = (text, e)

  pub next_ends : (bytes : List ℕ) (o : Option (Value A)) (rest : List ℕ)
      → IsNextOrNone level bytes o rest → (front : List ℕ) × (bytes ≡ front ++ rest)
  unfolding IsNextOrNone
  next_ends bytes None rest (all, none) =
      (bytes, sym (append-nil bytes) ∙ ap (λ l. bytes ++ l) (sym none))
  next_ends bytes (Some v) rest (gap, start, all, e, x) =
      let (front, f) = value_ends start v rest x in
      (gap ++ front, e ∙ ap (λ l. gap ++ l) f ∙ sym (append_assoc gap front rest))
