-- Lemmas about the encodings of the values in a value.
use Rattle.std.specs.Prelude.{◌≡◌, ◌<◌, ℕ, zero, suc, Bool, List, [], ◌∷◌, Option, Some, None}
use Rattle.std.specs.Prelude.{string_bytes}
use Rattle.std.specs.List.{All}
use Rattle.std.specs.Str.{IsUtf8, chars}
use Rattle.std.specs.declared.string.String.{String}
use Rattle.std.specs.declared.vec.Vec.{Vec}
use Rattle.std.proofs.Common.{sym, ap, subst, inl, inr, ◌∙◌, arith}
use Rattle.std.proofs.lemmas.List.Elements.{All-cons, All-nil, All-weaker}
use Rattle.std.proofs.lemmas.Str.{chars_from_encodes}
use Rattle.streams.specs.Equal.{same_some}
use Rattle.format_json_texts.specs.Number.{NumberText}
use Rattle.format_parts.specs.Words.{For, Slice}
use Rattle.format_json_texts.specs.Values.{ArrayText, HasText, IsWord, MemberText, ObjectText}
use Rattle.format_json_texts.specs.Values.{ScalarText, Spaced, ValueText}
use Rattle.format_json_texts.specs.declared.value.Value.{Value, out-Value}
use Rattle.format_json_texts.specs.declared.value.Value as values
use Rattle.format_json_texts.specs.declared.value.Value.TheOpen.{Value-F}
use Rattle.format_json_texts.specs.declared.value.Value.TheVariants.{outs-Array, outs-Boolean}
use Rattle.format_json_texts.specs.declared.value.Value.TheVariants.{outs-Null}
use Rattle.format_json_texts.specs.declared.value.Value.TheVariants.{outs-Number, outs-Object}
use Rattle.format_json_texts.specs.declared.value.Value.TheVariants.{outs-Text}
use Rattle.stream_sets.specs.Accumulator.Holds.{HasCharacters}
use Rattle.grammars.specs.Texts.{BothText, EachText, EitherText, InList, MadeText, PartedText}
use Rattle.grammars.specs.Texts.{TakenText, Text}

-- ---- which value it is

module _ {A X : Type 0} where
  abbrev pub layer_kind : Value-F A X → ℕ
  layer_kind Value-F.Null = 0
  layer_kind (Value-F.Boolean b) = 1
  layer_kind (Value-F.Number text) = 2
  layer_kind (Value-F.Text text) = 3
  layer_kind (Value-F.Array items) = 4
  layer_kind (Value-F.Object members) = 5

  abbrev layer_number : Value-F A X → Option (String A)
  layer_number (Value-F.Number text) = Some text
  layer_number _ = None

  abbrev layer_items : Value-F A X → Option (Vec X A)
  layer_items (Value-F.Array items) = Some items
  layer_items _ = None

  abbrev layer_members : Value-F A X → Option (Vec (String A × X) A)
  layer_members (Value-F.Object members) = Some members
  layer_members _ = None

module _ {A : Type 0} where
  abbrev pub kind_of : Value A → ℕ
  kind_of v = layer_kind (out-Value A v)

  number_kind : (text : String A) → kind_of (values.Number text) ≡ 2
  number_kind text = ap layer_kind (outs-Number text)

  array_kind : (items : Vec (Value A) A) → kind_of (values.Array items) ≡ 4
  array_kind items = ap layer_kind (outs-Array items)

  object_kind : (members : Vec (String A × Value A) A) → kind_of (values.Object members) ≡ 5
  object_kind members = ap layer_kind (outs-Object members)

  same_number : (x y : String A) → values.Number x ≡ values.Number y → x ≡ y
  same_number x y e =
      same_some (sym (ap layer_number (outs-Number x)) ∙ ap (λ v. layer_number (out-Value A v)) e
      ∙ ap layer_number (outs-Number y))

  same_items : (x y : Vec (Value A) A) → values.Array x ≡ values.Array y → x ≡ y
  same_items x y e =
      same_some (sym (ap layer_items (outs-Array x)) ∙ ap (λ v. layer_items (out-Value A v)) e
      ∙ ap layer_items (outs-Array y))

  same_members : (x y : Vec (String A × Value A) A) → values.Object x ≡ values.Object y → x ≡ y
  same_members x y e =
      same_some (sym (ap layer_members (outs-Object x)) ∙ ap (λ v. layer_members (out-Value A v)) e
      ∙ ap layer_members (outs-Object y))

  word_kind : (o : Option Bool) (v : Value A) → IsWord o v → kind_of v < 2
  word_kind None v e =
      let null : v ≡ values.Null → kind_of v ≡ 0 = λ f. ap kind_of f ∙ ap layer_kind outs-Null in
      omega (arith, null e)
  word_kind (Some b) v e =
      let boolean : v ≡ values.Boolean b → kind_of v ≡ 1 =
      λ f. ap kind_of f ∙ ap layer_kind (outs-Boolean b) in
      omega (arith, boolean e)

  scalar_kind : (v : Value A) (tokens : List ℕ) → ScalarText HasCharacters v tokens
      → kind_of v < 4
  unfolding EitherText MadeText
  scalar_kind v tokens (inl (o, a, is)) = omega (arith, word_kind o v is)
  scalar_kind v tokens (inr (inl (text, a, is))) = omega (arith, ap kind_of is, number_kind text)
  scalar_kind v tokens (inr (inr (text, a, is))) =
      omega (arith, ap kind_of is, ap layer_kind (outs-Text text))

-- ---- texts of lists

-- `HasOne text o`: `o` has an encoding
abbrev pub HasOne : {O : Type 0} → Text ℕ O → O → Type 0
HasOne text o = (tokens : List ℕ) × text o tokens

row_has : {O D : Type 0} (comma : Text ℕ D) (text : Text ℕ O) (os : List O) (tokens : List ℕ)
    → EachText (BothText (λ d o. o) comma text) os tokens → All (HasOne text) os
unfolding EachText BothText
row_has comma text [] tokens e = All-nil (HasOne text)
row_has {O} comma text (o ∷ os) tokens (xs, ys, (d, p, zs, ws, c, a, e, is), more, f) =
    let P : O → Type 0 = λ q. text q ws in
    All-cons (HasOne text) o os (ws, subst P (sym is) a) (row_has comma text os ys more)

joined_has : {O D : Type 0} (comma : Text ℕ D) (text : Text ℕ O) (os : List O)
    (tokens : List ℕ) → PartedText comma text os tokens → All (HasOne text) os
unfolding PartedText
joined_has comma text [] tokens e = All-nil (HasOne text)
joined_has comma text (o ∷ os) tokens (xs, ys, a, more, e) =
    All-cons (HasOne text) o os (xs, a) (row_has comma text os ys more)

spaced_has : {O : Type 0} (text : Text ℕ O) (o : O) → HasOne (Spaced text) o → HasOne text o
unfolding BothText
spaced_has {O} text o (tokens, (p, gap, xs, ys, a, g, e, is)) =
    let P : O → Type 0 = λ q. text q xs in (xs, subst P (sym is) a)

module _ {A : Type 0} (text : Text ℕ (Value A)) where
  items_have : (items : Vec (Value A) A) (tokens : List ℕ)
      → ArrayText HasCharacters text items tokens → All (HasOne text) items.items
  unfolding BothText InList
  items_have items tokens (m, list, xs, ys, b, (found, c, zs, ws, a, d, e, is), f, same) =
      let P : Vec (Value A) A → Type 0 = λ l. All (HasOne text) l.items in
      subst P (sym (same ∙ is)) (All-weaker (HasOne (Spaced text)) (HasOne text) (spaced_has text)
      found.items (joined_has _ (Spaced text) found.items zs a))

  member_has : (m : String A × Value A) → HasOne (MemberText HasCharacters text) m
      → HasOne text m.1
  unfolding BothText
  member_has m (tokens, (name, v, xs, ys, b, (c, w, zs, ws, d, a, e, is), f, same)) =
      let P : Value A → Type 0 = λ u. HasOne text u in
      subst P (sym (ap (λ (p : String A × Value A). p.1) same ∙ is)) (spaced_has text w (ws, a))

  members_have : (members : Vec (String A × Value A) A) (tokens : List ℕ)
      → ObjectText HasCharacters text members tokens
      → All (λ m. HasOne text m.1) members.items
  unfolding BothText InList
  members_have members tokens (m, list, xs, ys, b, (found, c, zs, ws, a, d, e, is), f, same) =
      let P : Vec (String A × Value A) A → Type 0 = λ l. All (λ m. HasOne text m.1) l.items in
      subst P (sym (same ∙ is)) (All-weaker (HasOne (MemberText HasCharacters text))
      (λ m. HasOne text m.1) member_has found.items
      (joined_has _ (MemberText HasCharacters text) found.items zs a))

-- ---- texts of values

module _ {A : Type 0} where
  -- at level 0 arrays and objects have none
  pub scalar_alone : (v : Value A) (tokens : List ℕ) → ValueText HasCharacters 0 v tokens
      → kind_of v < 4
  unfolding ValueText
  scalar_alone v tokens a = scalar_kind v tokens a

  pub no_array : (items : Vec (Value A) A) (tokens : List ℕ)
      → ValueText HasCharacters 0 (values.Array items) tokens → ⊥
  no_array items tokens a =
      absurd (omega (arith, scalar_alone _ tokens a, array_kind items))

  pub no_object : (members : Vec (String A × Value A) A) (tokens : List ℕ)
      → ValueText HasCharacters 0 (values.Object members) tokens → ⊥
  no_object members tokens a =
      absurd (omega (arith, scalar_alone _ tokens a, object_kind members))

  pub array_values : (below : ℕ) (items : Vec (Value A) A) (tokens : List ℕ)
      → ValueText HasCharacters (suc below) (values.Array items) tokens
      → All (HasOne (ValueText HasCharacters below)) items.items
  unfolding ValueText EitherText MadeText
  array_values below items tokens (inl a) =
      absurd (omega (arith, scalar_kind _ tokens a, array_kind items))
  array_values below items tokens (inr (inl (found, a, is))) =
      let P : Vec (Value A) A → Type 0 = λ l.
      All (HasOne (ValueText HasCharacters below)) l.items in
      subst P (sym (same_items items found is)) (items_have _ found tokens a)
  array_values below items tokens (inr (inr (found, a, is))) =
      absurd (omega (arith, ap kind_of is, array_kind items, object_kind found))

  -- and in one of an object
  pub object_values : (below : ℕ) (members : Vec (String A × Value A) A) (tokens : List ℕ)
      → ValueText HasCharacters (suc below) (values.Object members) tokens
      → All (λ m. HasOne (ValueText HasCharacters below) m.1) members.items
  unfolding ValueText EitherText MadeText
  object_values below members tokens (inl a) =
      absurd (omega (arith, scalar_kind _ tokens a, object_kind members))
  object_values below members tokens (inr (inl (found, a, is))) =
      absurd (omega (arith, ap kind_of is, object_kind members, array_kind found))
  object_values below members tokens (inr (inr (found, a, is))) =
      let P : Vec (String A × Value A) A → Type 0 = λ l.
      All (λ m. HasOne (ValueText HasCharacters below) m.1) l.items in
      subst P (sym (same_members members found is)) (members_have _ found tokens a)

  scalar_number : (text : String A) (tokens : List ℕ)
      → ScalarText HasCharacters (values.Number text) tokens
      → For HasText NumberText text tokens
  unfolding EitherText MadeText
  scalar_number text tokens (inl (o, a, is)) =
      absurd (omega (arith, word_kind o _ is, number_kind text))
  scalar_number text tokens (inr (inl (found, a, is))) =
      let P : String A → Type 0 = λ s. For HasText NumberText s tokens in
      subst P (sym (same_number text found is)) a
  scalar_number text tokens (inr (inr (found, a, is))) =
      absurd (omega (arith, ap kind_of is, number_kind text, ap layer_kind (outs-Text found)))

  number_text : (level : ℕ) (text : String A) (tokens : List ℕ)
      → ValueText HasCharacters level (values.Number text) tokens
      → For HasText NumberText text tokens
  unfolding ValueText EitherText MadeText
  number_text zero text tokens a = scalar_number text tokens a
  number_text (suc level) text tokens (inl a) = scalar_number text tokens a
  number_text (suc level) text tokens (inr (inl (found, a, is))) =
      absurd (omega (arith, ap kind_of is, number_kind text, array_kind found))
  number_text (suc level) text tokens (inr (inr (found, a, is))) =
      absurd (omega (arith, ap kind_of is, number_kind text, object_kind found))

  -- which is that of its characters
  pub number_told : (level : ℕ) (text : String A) (tokens : List ℕ) → IsUtf8 (string_bytes text)
      → ValueText HasCharacters level (values.Number text) tokens
      → (slice : Slice) × NumberText slice (chars (string_bytes text))
  unfolding MadeText TakenText
  number_told level text tokens utf8 a =
      let (slice, (o, written, shows), same) = number_text level text tokens a in
      let P : List ℕ → Type 0 = λ l. NumberText slice l in
      (slice, subst P (chars_from_encodes tokens _ utf8 (sym (same ∙ shows))) (o, written, shows))
