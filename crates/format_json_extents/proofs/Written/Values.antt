-- Proofs that the values of this crate encode values of RFC 8259, and likewise its JSON texts.
use Rattle.std.proofs.Common.{◌++◌, ◌<◌, ◌^◌, ◌↔◌, ◌∙◌, ◌∷◌, ◌≡◌, ◌≤◌, [], ℕ, Bool}
use Rattle.std.proofs.Common.{List, None, Option, Some, ap, append_assoc, arith, false, inl, inr}
use Rattle.std.proofs.Common.{length, length-append, refl, subst, suc, sym, true, zero}
use Rattle.std.proofs.StringFromBytes.{spelled}
use Rattle.std.proofs.lemmas.List.{append-nil}
use Rattle.std.proofs.lemmas.Str.{encodes-chars, encodes_same, scalars-chars}
use Rattle.std.specs.List.{AllByRecursion}
use Rattle.std.specs.Str.{IsUtf8, chars, encode_utf8_all}
use Rattle.std.specs.declared.string.String.{String}
use Rattle.format_json_extents.proofs.Characters.{in_utf8, only_low, themselves}
use Rattle.format_json_extents.proofs.Matching.{then_of_parts}
use Rattle.format_json_extents.proofs.Written.{Fits, Written, either_written, for_written}
use Rattle.format_json_extents.proofs.Written.{low_written, then_written}
use Rattle.format_json_extents.proofs.Written.Brackets.{IsMarked, bracketed_written, gap_written}
use Rattle.format_json_extents.proofs.Written.Brackets.{mark_written}
use Rattle.format_json_extents.proofs.Written.Numbers.{Same, as_written, number_written}
use Rattle.format_json_extents.proofs.Written.Strings.{string_written}
use Rattle.format_json_extents.specs.Number.{IsNumber}
use Rattle.format_json_extents.specs.Strings.{IsString}
use Rattle.format_json_extents.specs.Texts.{Either, IsByte, IsLongest, NoMatchAtStart, Then}
use Rattle.format_json_extents.specs.Value.{Exactly, IsMember, IsNestedTail, IsScalar, IsText}
use Rattle.format_json_extents.specs.Value.{IsValue, IsWhitespace, IsWord, opening_bracket}
use Rattle.format_json_texts.specs.Number.{NumberText}
use Rattle.format_parts.specs.Words.{Slice, former, latter, pair}
use Rattle.format_json_texts.specs.Values.{ArrayText, HasText, IsArray, IsNumber as IsNumberOf}
use Rattle.format_json_texts.specs.Values.{IsObject, IsString as IsStringOf, IsWord as IsWordOf}
use Rattle.format_json_texts.specs.Values.{JsonText, ObjectText, ScalarText, Spaced, ValueText}
use Rattle.format_json_texts.specs.Values.{WordText}
use Rattle.format_json_texts.specs.declared.value.Value.{Value}
use Rattle.format_json_texts.specs.declared.value.Value as values
use Rattle.stream_sets.specs.Accumulator.Holds.{HasCharacters}
use Rattle.grammars.specs.Texts.{Spelled, TakenText, Text}
use Rattle.format_json_extents.specs.Standard.{AnyValue, IsTextByStandard, IsValueByStandard}

only_written : {A : Type 0} {O : Type 0} (word : List ℕ) (o : O)
    → AllByRecursion (λ b. b < 128) word → Written A (Exactly word) (Spelled word o)
unfolding Spelled
only_written word o low =
    low_written (only_low word low) (λ p cs (is, e). e) (λ cs e. (o, (refl, e)))

word_written : {A : Type 0} → Written A IsWord WordText
word_written =
    either_written (only_written (110 ∷ 117 ∷ 108 ∷ 108 ∷ []) None (omega arith))
    (either_written (only_written (116 ∷ 114 ∷ 117 ∷ 101 ∷ []) (Some true) (omega arith))
    (only_written (102 ∷ 97 ∷ 108 ∷ 115 ∷ 101 ∷ []) (Some false) (omega arith)))

third_first : (P Q R : List ℕ → Type 0) → Same (Either R (Either Q P)) (Either P (Either Q R))
third_first P Q R = (there, back)
  where
    there : (cs : List ℕ) → Either R (Either Q P) cs → Either P (Either Q R) cs
    there cs (inl r) = inr (inr r)
    there cs (inr (inl q)) = inr (inl q)
    there cs (inr (inr p)) = inl p

    back : (cs : List ℕ) → Either P (Either Q R) cs → Either R (Either Q P) cs
    back cs (inl p) = inr (inr p)
    back cs (inr (inl q)) = inr (inl q)
    back cs (inr (inr r)) = inl r

-- what an object has in it is whitespace, and then the rest of a member
abbrev MemberBody : (List ℕ → Type 0) → List ℕ → Type 0
MemberBody V = Then (Then IsString IsWhitespace) (Then (IsMarked 58) (Then V IsWhitespace))

member_there : (V : List ℕ → Type 0) (cs : List ℕ) → IsMember V cs
    → Then IsWhitespace (MemberBody V) cs
member_there V cs is =
    let key = is.is_first in
    let name = key.is_second in
    let colon = name.is_second in
    let element = is.is_second in
    let named = name.first ++ colon.first in
    let value = (colon.second ++ element.first) ++ element.second in
    then_of_parts key.first (named ++ value) key.is_first
    (then_of_parts named value
    (then_of_parts name.first colon.first name.is_first colon.is_first refl)
    (then_of_parts (colon.second ++ element.first) element.second
    (then_of_parts colon.second element.first colon.is_second element.is_first refl)
    element.is_second
    refl) refl)
    (simp (is.joins, key.joins, name.joins, colon.joins, element.joins, append_assoc))

member_back : (V : List ℕ → Type 0) (cs : List ℕ) → Then IsWhitespace (MemberBody V) cs
    → IsMember V cs
member_back V cs is =
    let body = is.is_second in
    let name = body.is_first in
    let more = body.is_second in
    let colon = more.is_first in
    let named = name.second ++ colon.first in
    then_of_parts (is.first ++ (name.first ++ named)) (colon.second ++ more.second)
    (then_of_parts is.first (name.first ++ named) is.is_first
    (then_of_parts name.first named name.is_first
    (then_of_parts name.second colon.first name.is_second colon.is_first refl) refl) refl)
    (then_of_parts colon.second more.second colon.is_second more.is_second refl)
    (simp (is.joins, body.joins, name.joins, more.joins, colon.joins, append_assoc))

module _ {A : Type 0} where
  word_means : (o : Option Bool) → (v : Value A) × IsWordOf o v
  word_means None = (values.Null, refl)
  word_means (Some b) = (values.Boolean b, refl)

  number_of : (slice : Slice) (cs : List ℕ) → Fits A cs → NumberText slice cs
      → (text : String A) × HasText slice text
  unfolding TakenText
  number_of slice cs fits (o, x, shown) =
      (spelled fits.alloc (encode_utf8_all cs) ∣ (cs, (fits.scalars, refl)) ∣₁ fits.few, sym shown)

  scalar_written : Written A IsScalar (ScalarText (HasCharacters {A = A}))
  scalar_written =
      as_written (third_first IsString IsNumber IsWord)
      (either_written (for_written IsWordOf word_written (λ o cs fits x. word_means o))
      (either_written (for_written IsNumberOf (for_written HasText number_written number_of)
      (λ text cs fits x. (values.Number text, refl)))
      (for_written IsStringOf string_written
      (λ text cs fits x. (values.Text text, refl)))))

  module _ {V : List ℕ → Type 0} {value : Text ℕ (Value A)} (v : Written A V value) where
    spaced : Written A (Then V IsWhitespace) (Spaced value)
    spaced = then_written former v gap_written

    array_written : Written A
        (Then (IsByte (λ b. b ≡ opening_bracket false)) (IsNestedTail false V))
        (ArrayText (HasCharacters {A = A}) value)
    array_written =
        bracketed_written (λ cs is. is) (λ cs is. is) spaced 91 93 (omega arith) (omega arith)

    object_written : Written A (Then (IsByte (λ b. b ≡ opening_bracket true)) (IsNestedTail true V))
        (ObjectText (HasCharacters {A = A}) value)
    object_written =
        bracketed_written (member_there V) (member_back V)
        (then_written pair (then_written former string_written gap_written)
        (then_written latter (mark_written 58 (omega arith)) spaced)) 123 125 (omega arith)
        (omega arith)

  value_written : (level : ℕ) → Written A (IsValue level) (ValueText (HasCharacters {A = A}) level)
  unfolding ValueText
  value_written zero = scalar_written
  value_written (suc level) =
      let v = value_written level in
      either_written scalar_written
      (either_written (for_written IsArray (array_written v)
      (λ items cs fits x. (values.Array items, refl)))
      (for_written IsObject (object_written v)
      (λ members cs fits x. (values.Object members, refl))))

  text_written : (level : ℕ) → Written A (IsText level) (JsonText (HasCharacters {A = A}) level)
  text_written level = then_written latter gap_written (spaced (value_written level))

  -- ---- of bytes

  by_bytes : {O : Type 0} {P : List ℕ → Type 0} {text : Text ℕ O} → Written A P text → A
      → (bytes : List ℕ) → length bytes < 2 ^ 63 → IsUtf8 bytes
      → P bytes ↔ ((o : O) × text o (chars bytes))
  by_bytes {P = P} {text} w alloc bytes few utf8 =
      let same = encodes-chars bytes utf8 in (
        λ is.
            let v = w.value (chars bytes) bytes [] (record {
              alloc = alloc;
              scalars = scalars-chars bytes utf8;
              few = omega (arith, few, ap (λ l. length l) same);
            }) is (same ∙ sym (append-nil bytes)) in
            let none : v.second ≡ [] = encodes_same v.second [] v.rest_of in (
              v.output,
              subst (text v.output) (sym (v.splits ∙ ap (λ l. v.first ++ l) none
                  ∙ append-nil v.first)) v.written,
            ),
        λ (o, x). subst P same (w.set in_utf8 o (chars bytes) x),
      )

  pub values_written : A → (level : ℕ) (bytes : List ℕ) → IsUtf8 bytes → length bytes < 2 ^ 63
      → IsValue level bytes
      ↔ ((v : Value A) × ValueText (HasCharacters {A = A}) level v (chars bytes))
  values_written alloc level bytes utf8 few =
      by_bytes (value_written level) alloc bytes few utf8

  pub texts_written : A → (level : ℕ) (bytes : List ℕ) → IsUtf8 bytes → length bytes < 2 ^ 63
      → IsText level bytes
      ↔ ((v : Value A) × JsonText (HasCharacters {A = A}) level v (chars bytes))
  texts_written alloc level bytes utf8 few = by_bytes (text_written level) alloc bytes few utf8

  -- what encodes a value is one, by its characters and by its bytes, however long
  pub value_of : (level : ℕ) (v : Value A) (cs : List ℕ)
      → ValueText (HasCharacters {A = A}) level v cs → IsValue level cs
  value_of level = (value_written level).set themselves

  pub text_of : (level : ℕ) (v : Value A) (cs : List ℕ)
      → JsonText (HasCharacters {A = A}) level v cs → IsText level cs
  text_of level = (text_written level).set themselves

  pub value_bytes : (level : ℕ) (bytes : List ℕ) → IsUtf8 bytes → (v : Value A)
      → ValueText (HasCharacters {A = A}) level v (chars bytes) → IsValue level bytes
  value_bytes level bytes utf8 v x =
      subst (IsValue level) (encodes-chars bytes utf8)
      ((value_written level).set in_utf8 v (chars bytes) x)

standard : {P : List ℕ → Type 0} {text : Text ℕ AnyValue} → Written (Unit {0}) P text
    → (bytes : List ℕ) → length bytes < 2 ^ 63 → IsUtf8 bytes
    → P bytes ↔ (IsUtf8 bytes × ((v : AnyValue) × text v (chars bytes)))
standard w bytes few utf8 =
    let (there, back) = by_bytes w tt bytes few utf8 in
    (λ is. (utf8, there is), λ (also, x). back x)

value_standard : (level : ℕ) (bytes : List ℕ) → length bytes < 2 ^ 63 → IsUtf8 bytes
    → IsValue level bytes ↔ IsValueByStandard level bytes
value_standard level bytes few utf8 = standard (value_written level) bytes few utf8

pub text_standard : (level : ℕ) (bytes : List ℕ) → length bytes < 2 ^ 63 → IsUtf8 bytes
    → IsText level bytes ↔ IsTextByStandard level bytes
text_standard level bytes few utf8 = standard (text_written level) bytes few utf8

pub through : {X Y Z : Type 0} → X ↔ Y → Y ↔ Z → X ↔ Z
through (a, b) (c, d) = (λ x. c (a x), λ z. b (d z))

module _ (level : ℕ) (bytes : List ℕ) (few : length bytes < 2 ^ 63) where
  front_few : (text rest : List ℕ) → bytes ≡ text ++ rest → length text < 2 ^ 63
  front_few text rest e = omega (arith, few, ap (λ l. length l) e, length-append text rest)

  -- what is found is so by the standard
  pub found_standard : (text rest : List ℕ) → IsLongest (IsValue level) text bytes rest
      → IsUtf8 text → IsValueByStandard level text
  found_standard text rest it utf8 =
      (value_standard level text (front_few text rest it.splits) utf8).0 it.is

  pub found_longest : (found left : List ℕ) → IsLongest (IsValue level) found bytes left
      → (text rest : List ℕ) → IsValueByStandard level text → bytes ≡ text ++ rest
      → length text ≤ length found
  found_longest found left it text rest is e =
      it.longest text rest ((value_standard level text (front_few text rest e) is.0).1 is) e

  pub none_standard : NoMatchAtStart (IsValue level) bytes → (text rest : List ℕ)
      → IsValueByStandard level text → bytes ≡ text ++ rest → ⊥
  none_standard none text rest is e =
      none rest (record {
        text = text;
        is = (value_standard level text (front_few text rest e) is.0).1 is;
        splits = e;
      })
