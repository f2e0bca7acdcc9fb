-- Keys, strings on one line, arrays, inline tables and lines, from what follows their first
-- characters.
use Rattle.std.specs.Prelude.{◌⊎◌, ℕ, List, [], ◌∷◌, ◌++◌, length, Option, Some, None}
use Rattle.std.specs.declared.vec.Vec.{Vec}
use Rattle.std.proofs.Common.{refl, sym, ap, inl, inr, ◌∙◌, arith, append_assoc, length-append}
use Rattle.grammars.specs.Texts.{AtLeast, BothText, EachText, EitherText, GatheredText, Spelled}
use Rattle.grammars.specs.Texts.{OptionalText, Text, TokenOfText}
use Rattle.format_parts.specs.Words.{For, One}
use Rattle.format_toml.specs.Toml.{ArrayText, ArrayValuesText, BasicText, CharacterText, GapText}
use Rattle.format_toml.specs.Toml.{CharactersText, GapPartText, Gapped, HeaderText, InlineText}
use Rattle.format_toml.specs.Toml.{IsArray, IsInline, IsOf, KeyText, LiteralText, MarkText, Spaced}
use Rattle.format_toml.specs.Toml.{NameText, NewlineText, PairText, WideMarkText, WsText}
use Rattle.format_toml.specs.declared.characters.Characters.TheVariants as sets
use Rattle.format_toml_tree.specs.declared.value.Value.{Value}
use Rattle.format_toml_tree.specs.declared.value.Value as values
use Rattle.format_toml_document.proofs.Escapes.{character_emits}
use Rattle.format_toml_document.proofs.Rests.{LineStart, Lines, Others}
use Rattle.format_toml_document.proofs.Thens.{Fits, Long, Spells, Then, behind, both, parts, to}
use Rattle.format_toml_document.proofs.Thens.{each_spells, for, gathered, least_counts, left, nil}
use Rattle.format_toml_document.proofs.Thens.{list_for, listed, none, one, others, parted, right}
use Rattle.format_toml_document.proofs.Thens.{parted_any, parted_counts, parted_none, some}
use Rattle.format_toml_document.proofs.Thens.{token_emits}

-- ---- which separators are long

one_long : (c : ℕ) → Long (One c)
unfolding Spelled
one_long c = record { some = λ d xs (is, e). omega (arith, ap (λ l. length l) e) }

pair_long : {O P Q : Type 0} (output : O → P → Q) {first : Text ℕ O} (second : Text ℕ P)
    → Long first → Long (BothText output first second)
unfolding BothText
pair_long output second long = record {
  some = λ d xs (o, p, ys, zs, x, y, e, f).
      omega (arith, long.some o ys x, ap (λ l. length l) e, length-append ys zs);
}

pub newline_long : Long NewlineText
unfolding EitherText
newline_long = record {
  some = λ d xs x. elim x [
    | inl y ↦ (one_long 10).some d xs y
    | inr y ↦ (pair_long _ _ (one_long 13)).some d xs y
  ];
}

-- ---- rows, and whitespace over lines

each_least : {O : Type 0} {text : Text ℕ O} {K : List ℕ → Type 0} {l : List ℕ}
    → Then text (Then (EachText text) K) l → Then (AtLeast 1 (EachText text)) K l
unfolding EachText
each_least t =
    let (o, xs, ys, x, e, s) = parts t in
    let (os, zs, ws, y, g, k) = parts s in
    to (o ∷ os) (xs ++ zs) ws ((xs, zs, x, y, refl), omega arith)
    (e ∙ ap (λ l. xs ++ l) g ∙ sym (append_assoc xs zs ws)) k

least_spells : {row : Text ℕ (List ℕ)} → Spells row → Spells (AtLeast 1 row)
least_spells spells = record { few = λ os xs x scalars. spells.few os xs x.0 scalars }

-- one of two continuations
pub which : {O : Type 0} {text : Text ℕ O} (K J : List ℕ → Type 0) {l : List ℕ}
    → Then text (λ k. K k ⊎ J k) l → Then text K l ⊎ Then text J l
which K J t =
    let (o, xs, ys, x, e, s) = parts t in
    elim s [ inl k ↦ inl (to o xs ys x e k) | inr k ↦ inr (to o xs ys x e k) ]

module _ {K : List ℕ → Type 0} {l : List ℕ} where
  pub gap_nil : K l → Then GapText K l
  unfolding GatheredText EachText
  gap_nil k = to tt [] l ([], tt, refl) refl k

  pub gap_cons : Then GapPartText (Then GapText K) l → Then GapText K l
  unfolding GatheredText EachText
  gap_cons t =
      let (o, xs, ys, x, e, s) = parts t in
      let (all, zs, ws, (os, holds, y), g, k) = parts s in
      to tt (xs ++ zs) ws (o ∷ os, tt, (xs, zs, x, y, refl))
      (e ∙ ap (λ l. xs ++ l) g ∙ sym (append_assoc xs zs ws)) k

  pub feed : K l → Then NewlineText K (10 ∷ l)
  feed k = left _ (one 10 k)

  pub return : Then (One 10) K l → Then NewlineText K (13 ∷ l)
  return x = right _ (both _ (one 13 x))

-- ---- strings and names

module _ {A : Type 0} (alloc : A) {K : List ℕ → Type 0} {l : List ℕ} (fits : Fits l) where
  pub basic_made : Then (EachText CharacterText) (Then (One 34) K) l
      → Then (BasicText {A = A}) K (34 ∷ l)
  basic_made x = both _ (one 34 (both _ (gathered alloc fits (each_spells character_emits) x)))

  pub literal_made : Then (EachText (TokenOfText (λ c. c) (IsOf sets.Literal))) (Then (One 39) K) l
      → Then (LiteralText {A = A}) K (39 ∷ l)
  literal_made x =
      both _ (one 39 (both _
      (gathered alloc fits (each_spells (token_emits (IsOf sets.Literal))) x)))

  pub bare_made : Then (TokenOfText (λ c. c) (IsOf sets.Bare))
      (Then (EachText (TokenOfText (λ c. c) (IsOf sets.Bare))) K) l
      → Then (CharactersText {A = A} sets.Bare 1) K l
  bare_made x =
      gathered alloc fits (least_spells (each_spells (token_emits (IsOf sets.Bare)))) (each_least x)

  -- ---- keys

  pub key_made : Then (NameText {A = A})
      (Then WsText (Then (Others (MarkText 46) (Spaced (NameText {A = A}))) K)) l
      → Then (KeyText {A = A}) K l
  key_made x =
      for _ (λ names. (record { names = names }, refl))
      (listed alloc fits (least_counts _ (pair_long _ _ (one_long 46))) (parted _ _ (both _ x)))

module _ {A : Type 0} (alloc : A) where
  pub header_made : {K : List ℕ → Type 0} {l : List ℕ} → Fits l
      → Then WsText (Then (NameText {A = A})
      (Then WsText (Then (Others (MarkText 46) (Spaced (NameText {A = A}))) (Then (One 93) K)))) l
      → Then (HeaderText {A = A}) K l
  header_made fits x = both _ (behind fits (λ ys f k. both _ (key_made alloc f k)) x)

  pub pair_made : {value : Text ℕ (Value A)} {K : List ℕ → Type 0} {l : List ℕ} → Fits l
      → Then (NameText {A = A})
      (Then WsText (Then (Others (MarkText 46) (Spaced (NameText {A = A})))
      (Then (MarkText 61) (Then value K)))) l
      → Then (PairText value) K l
  pair_made fits x = both _ (behind fits (λ ys f k. both _ k) (key_made alloc fits x))

  -- ---- arrays and inline tables

  pub element_made : {value : Text ℕ (Value A)} {K : List ℕ → Type 0} {l : List ℕ} → Fits l
      → Then value (Then GapText (Then (Others (WideMarkText 44) (Gapped value))
      (Then (OptionalText (WideMarkText 44)) K))) l
      → Then (ArrayValuesText value) K l
  element_made fits x =
      both _
      (listed alloc fits (least_counts _ (pair_long _ _ (one_long 44))) (parted _ _ (both _ x)))

  pub array_made : {value : Text ℕ (Value A)} {K : List ℕ → Type 0} {l : List ℕ} → Fits l
      → Then GapText (λ k. Then (One 93) K k
      ⊎ Then value (Then GapText (Then (Others (WideMarkText 44) (Gapped value))
      (Then (OptionalText (WideMarkText 44)) (Then (One 93) K)))) k) l
      → Then (For IsArray (ArrayText value)) K (91 ∷ l)
  array_made {value} {K} fits x =
      for _ meant (both _ (both _ (one 91 (behind fits (λ ys f k. elim k [
        | inl end ↦ both _ (none _ end)
        | inr more ↦ both _ (some (element_made f more))
      ]) x))))
    where
      meant : (o : Option (Vec (Value A) A)) → (v : Value A) × IsArray o v
      meant (Some list) = (values.Array list, refl)
      meant None =
          let (list, e) = list_for alloc [] (omega arith) in (values.Array list, (list, e, refl))

  pub inline_made : (value : Text ℕ (Value A)) {K : List ℕ → Type 0} {l : List ℕ} → Fits l
      → Then WsText (λ k. Then (One 125) K k
      ⊎ Then (PairText value) (Then WsText (Then (Others (MarkText 44) (Spaced (PairText value)))
      (Then (One 125) K))) k) l
      → Then (For IsInline (InlineText value)) K (123 ∷ l)
  inline_made value fits x =
      for _ (λ o. (values.Table o, refl)) (both _ (both _ (one 123 (behind fits (λ ys f k. elim k [
        | inl end ↦
            both _
            (listed alloc f (parted_counts _ (pair_long _ _ (one_long 44))) (parted_none _ _ end))
        | inr more ↦
            both _ (listed alloc f (parted_counts _ (pair_long _ _ (one_long 44)))
            (parted_any _ _ (parted _ _ (both _ more))))
      ]) x))))

-- ---- lines

module _ {A : Type 0} (level : ℕ) where
  -- a line, and the others
  pub lines_made : {l : List ℕ} → Fits l → LineStart A level l → Lines A level l
  lines_made fits x =
      parted _ _ (behind fits (λ ys f k. elim k [ inl e ↦ nil _ e | inr more ↦ others _ _ more ])
      (both _ (behind fits (λ ys f k. both _ k) x)))
