-- The grammars of values, lines and documents are those of what is written.
use Rattle.std.specs.Prelude.{◌≡◌, ◌⊎◌, ◌<◌, ℕ, zero, suc, List, [], ◌∷◌, ◌++◌, Option, Some, None}
use Rattle.std.proofs.Common.{refl, sym, subst, arith, append_assoc, inl, inr}
use Rattle.stream_sets.specs.AsChar.{IsSpace}
use Rattle.stream_sets.specs.Range.{from_to}
use Rattle.format_parts.specs.Words.{For, between_of, char_of, for_front, for_of, former, latter}
use Rattle.format_parts.specs.Words.{pair}
use Rattle.format_toml.specs.Grammars.{AnyValue, Array, ArrayValues, GappedOut, Inline, Pair}
use Rattle.format_toml.specs.Grammars.{SpacedOut, WideMark, AnyItem, Document, Line}
use Rattle.format_toml.proofs.KeyTexts.{OpensKey, pair_begins, pair_of, table_of}
use Rattle.format_toml.proofs.Rows.{joined_begins, parted_ends_of}
use Rattle.format_toml.specs.Scalars.{ContinuesScalar, Goes}
use Rattle.format_toml.specs.Toml.{ArrayText, ArrayValuesText, Gapped, InlineText, IsArray}
use Rattle.format_toml.specs.Toml.{IsInline, MarkText, PairText, Spaced, ValueText, WideMarkText}
use Rattle.format_toml.specs.Toml.{DocumentText, HasStatements, IsEntry, ItemText, LineText}
use Rattle.format_toml.specs.Unique.{wide_mark_unique}
use Rattle.format_toml_tree.specs.declared.value.Value.{Value}
use Rattle.grammars.specs.Grammar.{Both, Grammar, NoMatch}
use Rattle.grammars.specs.Texts.{Anything, StartsWith, TextsStartWith, InFront, InList, IsGrammarOf}
use Rattle.grammars.specs.Texts.{NotFirst, OptionalText, PartedText, Text, AtEnd, MayStartWith}
use Rattle.grammars.specs.Texts.Fronts.{begins_wider, both_front, either_front, front_any}
use Rattle.grammars.specs.Texts.Fronts.{front_begins, front_behind, in_list_front, may_begin}
use Rattle.grammars.specs.Texts.Fronts.{none_begins, optional_front, spelled_begins, may_begin_more}
use Rattle.grammars.specs.Texts.Fronts.{may_begin_none}
use Rattle.grammars.specs.Texts.Parts.{behind_less, both_of, optional_of}
use Rattle.grammars.specs.Texts.Rows.{gathered_of, list_of, none_both, parted_of}
use Rattle.format_toml.proofs.LedLemmas.{led_of}
use Rattle.format_toml.proofs.ScalarsLemmas.{scalar_begins, scalar_of, white_front, wide_front}
use Rattle.format_toml.proofs.SpacesLemmas.{OpensGap, Past, WidePast, gapped_begins, gapped_of}
use Rattle.format_toml.proofs.SpacesLemmas.{mark_begins, mark_of, spaced_begins, spaced_of}
use Rattle.format_toml.proofs.SpacesLemmas.{wide_mark_begins, wide_mark_of, IsBreak, IsTail}
use Rattle.format_toml.proofs.SpacesLemmas.{comment_begins, maybe_comment_of, newline_begins}
use Rattle.format_toml.proofs.SpacesLemmas.{newline_of, ws_of}

-- what a value begins with
abbrev pub Opens : ℕ → Type 0
Opens c = (33 < c) × (c ≡ 35 → ⊥) × (c ≡ 93 → ⊥)

-- ---- arrays

module _ {A : Type 0} {g : Grammar ℕ (Value A)} {value : Text ℕ (Value A)}
    (of : IsGrammarOf g value Goes) (opens : TextsStartWith Opens value) where
  element_of : IsGrammarOf (GappedOut g) (Gapped value) (WidePast ContinuesScalar)
  element_of = gapped_of wide_front of

  element_begins : TextsStartWith Opens (Gapped value)
  element_begins = gapped_begins opens

  -- the rest after the values does not start with a comma and a value
  EndsValues : List ℕ → Type 0
  EndsValues rest =
      WidePast ContinuesScalar rest × NoMatch (Both (λ d o. o) (WideMark 44) (GappedOut g)) rest

  closing_past : (rest : List ℕ) → StartsWith (λ c. c ≡ 93) rest → WidePast ContinuesScalar rest
  closing_past =
      may_begin (λ c. c ≡ 93) (λ c. OpensGap c ⊎ ContinuesScalar c → ⊥)
      (λ c e o. omega arith)

  closing_gap : (rest : List ℕ) → StartsWith (λ c. c ≡ 93) rest → NotFirst OpensGap rest
  closing_gap =
      may_begin (λ c. c ≡ 93) (λ c. OpensGap c → ⊥)
      (λ c e gap. omega arith)

  closing_comma : (rest : List ℕ) → StartsWith (λ c. c ≡ 93) rest → NoMatch (WideMark 44) rest
  closing_comma rest b =
      none_begins (wide_mark_of 44) (wide_mark_begins 44) rest
      (may_begin (λ c. c ≡ 93) (λ c. c ≡ 44 → ⊥) (λ c e f. omega arith) rest b)

  closing_value : (rest : List ℕ) → StartsWith (λ c. c ≡ 93) rest → NoMatch (GappedOut g) rest
  closing_value rest b =
      none_begins element_of element_begins rest
      (may_begin (λ c. c ≡ 93) (λ c. Opens c → ⊥) (λ c e o. o.2 e) rest b)

  -- a comma that is the last, or none
  last_front : InFront (OptionalText (WideMarkText 44)) (StartsWith (λ c. c ≡ 93)) EndsValues
  unfolding EndsValues OptionalText Both
  last_front = record { makes = makes }
    where
      makes : (o : Option _) (xs rest : List ℕ) → OptionalText (WideMarkText 44) o xs
          → StartsWith (λ c. c ≡ 93) rest → EndsValues (xs ++ rest)
      makes None xs rest e b =
          let P : List ℕ → Type 0 = λ l. EndsValues (l ++ rest) in
          subst P (sym e) (
            closing_past rest b,
            none_both (λ d o. o) (WideMark 44) (GappedOut g) rest (closing_comma rest b),
          )
      makes (Some mark) xs rest x b = (
        may_begin (λ c. c ≡ 44) (λ c. OpensGap c ⊎ ContinuesScalar c → ⊥)
            (λ c e o. omega arith) (xs ++ rest) ((wide_mark_begins 44).makes mark xs rest x tt),
        λ o other (d, element, mid, m, y, out).
            let P : List ℕ → Type 0 = λ l. GappedOut g l element other in
            let same = (wide_mark_unique 44).one (xs ++ rest) d mark mid rest m
            ((wide_mark_of 44).back mark xs rest x (closing_gap rest b)) in
            closing_value rest b element other (subst P same y),
      )

  values_of : IsGrammarOf (ArrayValues g) (ArrayValuesText value) (StartsWith (λ c. c ≡ 93))
  unfolding EndsValues
  values_of =
      both_of former (list_of (parted_ends_of element_of (wide_mark_of 44)
      (both_front pair (front_begins (λ c e o. omega arith) (spelled_begins 44 [] 44)) front_any)
      (front_begins (λ c o g. omega arith) element_begins)
      (λ rest ends. ends.0) (λ rest ends. ends.1)))
      (optional_of (behind_less closing_gap (wide_mark_of 44)) closing_comma) last_front

  values_begins : TextsStartWith Opens (ArrayValuesText value)
  values_begins = both_front former
      (in_list_front (joined_begins (WideMarkText 44) element_begins)) front_any

  array_of : IsGrammarOf (Array g) (ArrayText value) Anything
  array_of =
      between_of (wide_mark_of 91)
      (optional_of values_of (λ rest b. none_begins values_of values_begins rest
      (may_begin (λ c. c ≡ 93) (λ c. Opens c → ⊥) (λ c e o. o.2 e) rest b)))
      (char_of 93)
      (front_behind closing_gap
      (optional_front (front_begins (λ c o g. omega arith) values_begins)))
      (spelled_begins 93 [] 93)

-- ---- inline tables

-- elements are in front of no whitespace
commas_front : {O A : Type 0} {element : Text ℕ O} → TextsStartWith (λ c. 32 < c) element
    → InFront (InList {A = A} (PartedText (MarkText 44) element)) (StartsWith (λ c. c ≡ 125))
    (NotFirst IsSpace)
unfolding InList PartedText
commas_front {O} {A} {element} begins =
    record { makes = λ list xs rest x b. first list.items xs rest x b }
  where
    first : (os : List O) (tokens rest : List ℕ) → PartedText (MarkText 44) element os tokens
        → StartsWith (λ c. c ≡ 125) rest → NotFirst IsSpace (tokens ++ rest)
    first [] tokens rest e b =
        rw e (may_begin (λ c. c ≡ 125) (λ c. IsSpace c → ⊥) (λ c f s. omega arith) rest b)
    first (o ∷ os) tokens rest (xs, ys, a, more, e) b =
        rw (e, append_assoc xs ys rest) (may_begin (λ c. 32 < c) (λ c. IsSpace c → ⊥)
        (λ c f s. omega arith) (xs ++ (ys ++ rest)) (begins.makes o xs (ys ++ rest) a tt))

module _ {A : Type 0} {g : Grammar ℕ (Value A)} {value : Text ℕ (Value A)}
    (of : IsGrammarOf g value Goes) (opens : TextsStartWith Opens value) where
  spaced_pair_of : IsGrammarOf (SpacedOut (Pair g)) (Spaced (PairText value)) (Past ContinuesScalar)
  spaced_pair_of =
      spaced_of white_front (pair_of of (front_begins (λ c o s. omega arith) opens))

  inline_of : IsGrammarOf (Inline g) (InlineText value) Anything
  inline_of =
      between_of (mark_of 123) (list_of (parted_of spaced_pair_of (mark_of 44)
      (both_front pair (front_begins (λ c e o. omega arith) (spelled_begins 44 [] 44)) front_any)
      (front_begins (λ c o s. omega arith) (spaced_begins (pair_begins value))) (from_to 0 None) 0
      refl (may_begin (λ c. c ≡ 125) (λ c. IsSpace c ⊎ ContinuesScalar c → ⊥)
      (λ c e o. omega arith))
      (λ rest b. none_begins (mark_of 44) (mark_begins 44) rest
      (may_begin (λ c. c ≡ 125) (λ c. c ≡ 44 → ⊥) (λ c e f. omega arith) rest b))
      (λ rest least b. none_begins spaced_pair_of (spaced_begins (pair_begins value)) rest
      (may_begin (λ c. c ≡ 125) (λ c. OpensKey c → ⊥) (λ c e o. omega arith) rest b))))
      (char_of 125)
      (commas_front (begins_wider (λ c o. omega arith) (spaced_begins (pair_begins value))))
      (spelled_begins 125 [] 125)

-- ---- values

module _ {A : Type 0} where
  array_begins : (value : Text ℕ (Value A))
      → TextsStartWith (λ c. c ≡ 91) (For IsArray (ArrayText value))
  array_begins value = for_front IsArray (both_front latter (wide_mark_begins 91) front_any)

  inline_begins : (value : Text ℕ (Value A))
      → TextsStartWith (λ c. c ≡ 123) (For IsInline (InlineText value))
  inline_begins value = for_front IsInline (both_front latter (mark_begins 123) front_any)

  pub value_begins : (level : ℕ) → TextsStartWith Opens (ValueText {A = A} level)
  unfolding ValueText
  value_begins zero = begins_wider (λ c a. omega arith) scalar_begins
  value_begins (suc level) =
      either_front (begins_wider (λ c e. omega arith) (array_begins (ValueText level)))
      (either_front (begins_wider (λ c e. omega arith) (inline_begins (ValueText level)))
      (begins_wider (λ c a. omega arith) scalar_begins))

  pub value_of : (level : ℕ) → IsGrammarOf (AnyValue {A = A} level) (ValueText level) Goes
  unfolding ValueText AnyValue
  value_of zero = scalar_of
  value_of (suc level) =
      led_of (behind_less (λ rest b. tt)
      (for_of IsArray (array_of (value_of level) (value_begins level))))
      (led_of (behind_less (λ rest b. tt)
      (for_of IsInline (inline_of (value_of level) (value_begins level)))) scalar_of
      (inline_begins (ValueText level))
      (front_begins (λ c a e. omega arith) scalar_begins))
      (array_begins (ValueText level))
      (either_front (front_begins (λ c e f. omega arith) (inline_begins (ValueText level)))
      (front_begins (λ c a e. omega arith) scalar_begins))

  -- a key and a value of a level
  pub entry_of : (level : ℕ) → IsGrammarOf (Pair {A = A} (AnyValue level))
      (PairText (ValueText level)) Goes
  entry_of level =
      pair_of (value_of level) (front_begins (λ c o s. omega arith) (value_begins level))

-- what a table or an entry begins with
abbrev pub OpensItem : ℕ → Type 0
OpensItem c = (c ≡ 91) ⊎ OpensKey c

module _ {A : Type 0} (level : ℕ) where
  item_of : IsGrammarOf (AnyItem {A = A} level) (ItemText level) Goes
  item_of =
      led_of (behind_less (λ rest b. tt) (both_of latter (char_of 91) table_of front_any))
      (for_of IsEntry (entry_of level)) (both_front latter (spelled_begins 91 [] 91) front_any)
      (front_begins (λ c o e. omega arith) (for_front IsEntry (pair_begins (ValueText level))))

  item_begins : TextsStartWith OpensItem (Spaced (ItemText {A = A} level))
  item_begins =
      spaced_begins (either_front
      (begins_wider (λ c e. inl e) (both_front latter (spelled_begins 91 [] 91) front_any))
      (begins_wider (λ c o. inr o) (for_front IsEntry (pair_begins (ValueText level)))))

  line_of : IsGrammarOf (Line {A = A} level) (LineText level) (MayStartWith IsBreak)
  line_of =
      between_of ws_of
      (optional_of (behind_less
      (may_begin_more IsTail (λ c. IsSpace c ⊎ ContinuesScalar c → ⊥) (λ c t o. omega arith))
      (spaced_of white_front item_of))
      (λ rest b. none_begins (spaced_of white_front item_of) item_begins rest
      (may_begin_more IsTail (λ c. OpensItem c → ⊥) (λ c t o. omega arith) rest b)))
      maybe_comment_of
      (front_behind (may_begin_more IsTail (λ c. IsSpace c → ⊥) (λ c t s. omega arith))
      (optional_front (front_begins (λ c o s. omega arith) item_begins)))
      (front_behind (may_begin_more IsBreak IsTail (λ c is. inr is))
      (optional_front (front_begins (λ c e. inl e) comment_begins)))

-- ---- documents

pub document_of : {A : Type 0} (level : ℕ)
    → IsGrammarOf (Document {A = A} level) (DocumentText level) AtEnd
document_of level =
    gathered_of HasStatements (parted_of (line_of level) newline_of
    (front_begins (λ c is. is) newline_begins)
    front_any (from_to 1 None) 1 refl (may_begin_none IsBreak)
    (λ rest e. none_begins newline_of newline_begins rest
    (may_begin_none (λ c. IsBreak c → ⊥) rest e))
    (λ rest never e. omega arith))
