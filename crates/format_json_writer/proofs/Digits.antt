-- Whether all of a text is a number, by the result of its parser.
use Rattle.std.specs.Prelude.{◌≡◌, ◌==◌, ℕ, Bool, true, false, List, [], ◌∷◌, ◌++◌, length, Ok}
use Rattle.std.specs.Prelude.{Err, encode_utf8_all}
use Rattle.std.specs.Str.{IsUtf8, chars}
use Rattle.std.proofs.Common.{sym, ap, subst, inl, inr, ◌∙◌, refl, arith}
use Rattle.std.proofs.lemmas.Bool.{eqb-true}
use Rattle.std.proofs.lemmas.List.{append-nil, nil_from_length}
use Rattle.std.proofs.lemmas.Str.{chars-nil, encodes-chars}
use Rattle.streams.specs.Equal.{true_is_false}
use Rattle.streams.specs.Kind.{Kind, memory}
use Rattle.streams.specs.Text.{text_input, text_reading}
use Rattle.format_json_values.specs.Numbers.{number_unique}
use Rattle.format_json_texts.specs.Number.{Number, NumberText, number_of}
use Rattle.format_parts.specs.Words.{Slice}
use Rattle.winnow_core.specs.Exact.{Reads}

pub all_read : (text : List ℕ) (is_empty : Bool) → is_empty ≡ (length text == 0)
    → is_empty ≡ true → chars text ≡ []
all_read text b e is =
    ap (λ l. chars l) (nil_from_length text (eqb-true (length text) 0 (sym e ∙ is))) ∙ chars-nil

-- and one of some has some
pub some_left : (text : List ℕ) (is_empty : Bool) → IsUtf8 text → is_empty ≡ (length text == 0)
    → is_empty ≡ false → chars text ≡ [] → ⊥
some_left [] b utf8 e not none = true_is_false (sym e ∙ not)
some_left (x ∷ xs) b utf8 e not none =
    let same : x ∷ xs ≡ [] =
    sym (encodes-chars (x ∷ xs) utf8) ∙ ap (λ l. encode_utf8_all l) none in
    absurd (omega (arith, ap (λ l. length l) same))

-- a number that is all of a text stands by the grammar
alone : (text : List ℕ) (slice : Slice) → NumberText slice text → Number text slice []
alone text slice a =
    let P : List ℕ → Type 0 = λ l. Number l slice [] in
    subst P (append-nil text) (number_of.back slice text [] a tt)

module _ {E : Type 0} {kind : E → Kind} (text rest : List ℕ) where
  -- one that leaves nothing is all of the text
  pub number_whole : {slice : Slice}
      → Reads text_reading kind Number (text_input text) (Ok slice) (text_input rest)
      → chars rest ≡ [] → (found : Slice) × NumberText found (chars text)
  number_whole {slice} r none =
      let (front, e, a) = number_of.there (chars text) slice (chars rest) (r.stands refl) in
      let P : List ℕ → Type 0 = λ l. NumberText slice l in
      (slice, subst P (sym (e ∙ ap (λ l. front ++ l) none ∙ append-nil front)) a)

  -- where one leaves something no other is all of it
  pub number_part : {slice : Slice}
      → Reads text_reading kind Number (text_input text) (Ok slice) (text_input rest)
      → (chars rest ≡ [] → ⊥) → (other : Slice) → NumberText other (chars text) → ⊥
  number_part {slice} r some other a =
      some (number_unique.one (chars text) slice other (chars rest) [] (r.stands refl)
      (alone (chars text) other a))

  pub number_none : {error : E}
      → Reads text_reading kind Number (text_input text) (Err error) (text_input rest)
      → (kind error ≡ memory → ⊥) → (other : Slice) → NumberText other (chars text) → ⊥
  number_none r not other a = elim (r.none refl) [
    | inl m ↦ not m
    | inr (b, none) ↦ none other [] (alone (chars text) other a)
  ]
