-- Lemmas about the text that is appended for a value, part by part.
use Rattle.std.specs.Prelude.{◌≡◌, ◌≤◌, ◌<◌, ◌+◌, ℕ, suc, List, [], ◌∷◌, ◌++◌, Bool, true, false}
use Rattle.std.specs.Prelude.{None, Option, Some, drop, length, slice_index_or}
use Rattle.std.specs.Prelude.{encode_utf8_all, string_bytes}
use Rattle.std.specs.Char.{encode_utf8}
use Rattle.std.specs.Str.{IsUtf8, chars}
use Rattle.std.specs.declared.string.String.{String}
use Rattle.std.specs.declared.vec.Vec.{Vec}
use Rattle.std.proofs.Common.{refl, sym, ap, subst, ◌∙◌, arith}
use Rattle.std.proofs.lemmas.List.{append-nil, drop_all, drop_more, nil_from_length}
use Rattle.std.proofs.lemmas.Str.{chars_from_encodes, encodes-chars}
use Rattle.format_json_texts.specs.Values.{IsArray, IsNumber, IsObject, IsString, IsWord}
use Rattle.format_json_texts.specs.Values.{WordText}
use Rattle.format_json_texts.specs.declared.value.Value.{Value}
use Rattle.format_json_texts.specs.declared.value.Value as values
use Rattle.format_json_writer.specs.Added.{Appends, PutsNumber}
use Rattle.format_json_writer.specs.Layout.{CompactScalar, CompactString, LaidItems, LaidList}
use Rattle.format_json_writer.specs.Layout.{LaidMark, LaidMember, LaidNest, LaidValue, deeper_of}
use Rattle.format_json_writer.specs.Layout.{line_in, line_of, space_of}
use Rattle.format_json_writer.specs.Strings.{CanonicalString}
use Rattle.format_json_writer.specs.declared.layout.Layout.{Layout}
use Rattle.format_json_writer.proofs.Adding.{adds_more, adds_none, adds_then, both_behind}
use Rattle.format_json_writer.proofs.Adding.{one_behind}
use Rattle.format_json_writer.proofs.Laid.{line_ascii, line_in_ascii, scalar_is_value, space_ascii}
use Rattle.format_json_writer.proofs.Within.{IsWithin, within_first, within_refl, within_second}
use Rattle.format_parts.specs.Words.{For, former, latter, pair}
use Rattle.grammars.specs.Texts.{BothText, EachText, EitherText, GatheredText, InList, MadeText}
use Rattle.grammars.specs.Texts.{PartedText, Spelled, TakenText, Text}

-- ---- what is put is a text of more

pub adds_as : {O : Type 0} {inner outer : Text ℕ O} {o : O} {before after : List ℕ}
    → IsWithin inner outer → Appends inner o before after → Appends outer o before after
adds_as {o = o} within added = record {
  tokens = added.tokens;
  is = within.told o added.tokens added.is;
  behind = added.behind;
}

adds_first : {O : Type 0} {first : Text ℕ O} (second : Text ℕ O) {o : O} {before after : List ℕ}
    → Appends first o before after → Appends (EitherText first second) o before after
adds_first second added = adds_as (within_first second within_refl) added

adds_second : {O : Type 0} (first : Text ℕ O) {second : Text ℕ O} {o : O} {before after : List ℕ}
    → Appends second o before after → Appends (EitherText first second) o before after
adds_second first added = adds_as (within_second first within_refl) added

adds_for : {O U : Type 0} (means : O → U → Type 0) {text : Text ℕ O} {o : O} {u : U}
    {before after : List ℕ} → means o u → Appends text o before after
    → Appends (For means text) u before after
unfolding MadeText
adds_for means {o = o} is added = record {
  tokens = added.tokens;
  is = (o, added.is, is);
  behind = added.behind;
}

adds_spelled : {O : Type 0} (word : List ℕ) {o output : O} {before after : List ℕ}
    → encode_utf8_all word ≡ word → o ≡ output → after ≡ before ++ word
    → Appends (Spelled word output) o before after
unfolding Spelled
adds_spelled word {before = before} ascii is e = record {
  tokens = word;
  is = (is, refl);
  behind = e ∙ ap (λ l. before ++ l) (sym ascii);
}

-- a mark, and whitespace after it
mark_put : (c : ℕ) {gap before between after : List ℕ} → encode_utf8_all gap ≡ gap
    → between ≡ before ++ encode_utf8 c → after ≡ between ++ gap
    → Appends (LaidMark c gap) c before after
unfolding Spelled
mark_put c {gap} {between = between} ascii mark space = record {
  tokens = c ∷ gap;
  is = (refl, refl);
  behind = both_behind _ _ _ (c ∷ []) gap (one_behind _ c mark)
      (space ∙ ap (λ l. between ++ l) (sym ascii));
}

-- whitespace, and a mark after it
mark_closed : (c : ℕ) {gap before between after : List ℕ} → encode_utf8_all gap ≡ gap
    → between ≡ before ++ gap → after ≡ between ++ encode_utf8 c
    → Appends (Spelled (gap ++ c ∷ []) c) c before after
unfolding Spelled
mark_closed c {gap} {before} ascii space mark = record {
  tokens = gap ++ c ∷ [];
  is = (refl, refl);
  behind = both_behind _ _ _ gap (c ∷ []) (space ∙ ap (λ l. before ++ l) (sym ascii))
      (one_behind _ c mark);
}

-- ---- words

module _ {before after : List ℕ} {word : Option Bool} where
  pub null_word : word ≡ None → after ≡ before ++ 110 ∷ 117 ∷ 108 ∷ 108 ∷ []
      → Appends WordText word before after
  unfolding encode_utf8
  null_word is e = adds_first _ (adds_spelled (110 ∷ 117 ∷ 108 ∷ 108 ∷ []) refl is e)

  pub true_word : word ≡ Some true → after ≡ before ++ 116 ∷ 114 ∷ 117 ∷ 101 ∷ []
      → Appends WordText word before after
  unfolding encode_utf8
  true_word is e =
      adds_second _ (adds_first _ (adds_spelled (116 ∷ 114 ∷ 117 ∷ 101 ∷ []) refl is e))

  pub false_word : word ≡ Some false → after ≡ before ++ 102 ∷ 97 ∷ 108 ∷ 115 ∷ 101 ∷ []
      → Appends WordText word before after
  unfolding encode_utf8
  false_word is e =
      adds_second _ (adds_second _
      (adds_spelled (102 ∷ 97 ∷ 108 ∷ 115 ∷ 101 ∷ []) refl is e))

-- a string
string_put : {A : Type 0} {before after bytes : List ℕ} (text : String A)
    → bytes ≡ string_bytes text → IsUtf8 bytes → Appends CanonicalString (chars bytes) before after
    → Appends CompactString text before after
unfolding GatheredText
string_put {bytes = bytes} text same utf8 added = record {
  tokens = added.tokens;
  is = (chars bytes, sym same ∙ sym (encodes-chars bytes utf8), added.is);
  behind = added.behind;
}

-- ---- values that have no others in them

module _ {A : Type 0} (layout : Layout) (level : ℕ) {before after : List ℕ} where
  scalar_put : {v : Value A} → Appends CompactScalar v before after
      → Appends (LaidValue layout level) v before after
  scalar_put added = adds_as (scalar_is_value layout level) added

  -- a word
  pub word_put : (word : Option Bool) {v : Value A} → IsWord word v
      → Appends WordText word before after → Appends (LaidValue layout level) v before after
  word_put word is added = scalar_put (adds_first _ (adds_for IsWord is added))

  -- a number
  pub number_put : {v : Value A} {bytes : List ℕ} (text : String A) → v ≡ values.Number text
      → bytes ≡ string_bytes text → IsUtf8 bytes → PutsNumber bytes before after
      → Appends (LaidValue layout level) v before after
  unfolding MadeText TakenText
  number_put {bytes = bytes} text is same utf8 ((slice, (o, a, shows)), e) =
      let spelled = encodes-chars bytes utf8 in
      scalar_put (adds_second _ (adds_first _ (adds_for IsNumber is (record {
        tokens = chars bytes;
        is = (slice, (o, a, shows), sym same ∙ sym spelled ∙ sym shows);
        behind = e ∙ ap (λ l. before ++ l) (sym spelled);
      }))))

  -- a string
  pub text_put : {v : Value A} {bytes : List ℕ} (text : String A) → v ≡ values.Text text
      → bytes ≡ string_bytes text → IsUtf8 bytes
      → Appends CanonicalString (chars bytes) before after
      → Appends (LaidValue layout level) v before after
  text_put text is same utf8 added =
      scalar_put (adds_second _ (adds_second _ (adds_for IsString is
      (string_put text same utf8 added))))

-- ---- lists

adds_list : {O A : Type 0} {text : Text ℕ (List O)} (list : Vec O A) {before after : List ℕ}
    → Appends text list.items before after → Appends (InList text) list before after
unfolding InList
adds_list list added = record { tokens = added.tokens; is = added.is; behind = added.behind }

-- none
pub joined_none : {O D : Type 0} (comma : Text ℕ D) (text : Text ℕ O) (os : List O)
    (bytes : List ℕ) → length os ≡ 0 → Appends (PartedText comma text) os bytes bytes
unfolding PartedText
joined_none {O} comma text os bytes none =
    let P : List O → Type 0 = λ l. Appends (PartedText comma text) l bytes bytes in
    subst P (sym (nil_from_length os none))
    (record { tokens = []; is = refl; behind = sym (append-nil bytes) })

-- each after a comma
abbrev pub CommaPrefixed : {O : Type 0} → Layout → Text ℕ O → Text ℕ (List O)
CommaPrefixed layout text =
    EachText (BothText latter (LaidMark 44 (line_of layout)) text)

module _ {O : Type 0} {text : Text ℕ O} (layout : Layout) where
  -- the first, and the others
  pub joined_first : {o : O} {all os : List O} {before between after : List ℕ} → all ≡ o ∷ os
      → Appends text o before between → Appends (CommaPrefixed layout text) os between after
      → Appends (LaidItems layout text) all before after
  unfolding PartedText
  joined_first {before = before} {after = after} is one rest =
      let P : List O → Type 0 = λ l. Appends (LaidItems layout text) l before after in
      subst P (sym is) (record {
        tokens = one.tokens ++ rest.tokens;
        is = (one.tokens, rest.tokens, one.is, rest.is, refl);
        behind = both_behind _ _ _ one.tokens rest.tokens one.behind rest.behind;
      })

  -- one more
  pub behind_more : (os : List O) (k : ℕ) (o : O) {before first second third after : List ℕ}
      → k < length os → o ≡ slice_index_or os k o → first ≡ before ++ encode_utf8 44
      → second ≡ first ++ line_of layout → Appends text o second third
      → Appends (CommaPrefixed layout text) (drop (k + 1) os) third after
      → Appends (CommaPrefixed layout text) (drop k os) before after
  behind_more os k o {before} {after = after} below is comma line one more =
      let P : List O → Type 0 = λ l. Appends (CommaPrefixed layout text) l before after in
      let here : drop k os ≡ o ∷ drop (k + 1) os =
      drop_more os k o below ∙ ap (λ y. y ∷ drop (k + 1) os) (sym is) in
      subst P (sym here)
      (adds_more (adds_then latter (mark_put 44 (line_ascii layout) comma line) one) more)

-- no more
pub behind_end : {O : Type 0} (text : Text ℕ O) (layout : Layout) (os : List O) (k : ℕ)
    (bytes : List ℕ) → length os ≤ k → Appends (CommaPrefixed layout text) (drop k os) bytes bytes
behind_end {O} text layout os k bytes most =
    let P : List O → Type 0 = λ l. Appends (CommaPrefixed layout text) l bytes bytes in
    subst P (sym (drop_all k os most))
    (adds_none (BothText latter (LaidMark 44 (line_of layout)) text) bytes)

-- brackets round items
pub list_put : {O A : Type 0} (item : Text ℕ O) (far near : Layout) (opening closing : ℕ)
    (list : Vec O A) {os : List O} {before first second third fourth after : List ℕ}
    → os ≡ list.items → first ≡ before ++ encode_utf8 opening → second ≡ first ++ line_in os near
    → Appends (LaidItems near item) os second third → fourth ≡ third ++ line_in os far
    → after ≡ fourth ++ encode_utf8 closing
    → Appends (LaidList opening closing far near item) list before after
list_put {O} item far near opening closing list {first = first} {second} {third} {fourth}
    same opened begun added ended closed =
    let P : List O → Type 0 = λ l. second ≡ first ++ line_in l near in
    let Q : List O → Type 0 = λ l. Appends (LaidItems near item) l second third in
    let R : List O → Type 0 = λ l. fourth ≡ third ++ line_in l far in
    let all = adds_then latter
    (mark_put opening (line_in_ascii list.items near) opened (subst P same begun))
    (adds_then former (adds_list list (subst Q same added))
    (mark_closed closing (line_in_ascii list.items far) (subst R same ended) closed)) in
    record { tokens = all.tokens; is = all.is; behind = all.behind }

-- ---- values that have others in them

module _ {A : Type 0} (below : ℕ) (layout : Layout) {near : Layout} {level : ℕ}
    {before after : List ℕ} (is : level ≡ below + 1) (deeper : near ≡ deeper_of layout) where
  nest_put : {v : Value A} → Appends (LaidNest layout near (LaidValue near below)) v before after
      → Appends (LaidValue layout level) v before after
  unfolding LaidValue
  nest_put {v} added =
      let P : ℕ → Type 0 = λ l. Appends (LaidValue layout l) v before after in
      let Q : Layout → Type 0 =
      λ n. Appends (LaidNest layout n (LaidValue n below)) v before after in
      let e : level ≡ suc below = omega (arith, is) in
      subst P (sym e) (adds_second CompactScalar (subst Q deeper added))

  -- brackets round values
  pub array_put : {items : Vec (Value A) A}
      → Appends (LaidList 91 93 layout near (LaidValue near below)) items before after
      → Appends (LaidValue layout level) (values.Array items) before after
  array_put added = nest_put (adds_first _ (adds_for IsArray refl added))

  -- braces round members
  pub object_put : {members : Vec (String A × Value A) A}
      → Appends (LaidList 123 125 layout near (LaidMember near (LaidValue near below))) members
      before
      after
      → Appends (LaidValue layout level) (values.Object members) before after
  object_put added = nest_put (adds_second _ (adds_for IsObject refl added))

-- a name, a colon and a value
pub member_put : {A : Type 0} {text : Text ℕ (Value A)} (layout : Layout)
    {before first second third after bytes : List ℕ} (member : String A × Value A)
    → bytes ≡ string_bytes member.0 → IsUtf8 bytes
    → Appends CanonicalString (chars bytes) before first
    → second ≡ first ++ encode_utf8 58 → third ≡ second ++ space_of layout
    → Appends text member.1 third after → Appends (LaidMember layout text) member before after
member_put layout member same utf8 name colon space value =
    adds_then pair (string_put member.0 same utf8 name)
    (adds_then latter (mark_put 58 (space_ascii layout) colon space) value)

-- what is put after nothing is all that there is
pub added_alone : {O : Type 0} {text : Text ℕ O} {o : O} {before after shown : List ℕ}
    → shown ≡ after → IsUtf8 shown → before ≡ [] → Appends text o before after
    → text o (chars after)
added_alone {text = text} {o} {after = after} same utf8 nothing added =
    let P : List ℕ → Type 0 = λ l. text o l in
    let Q : List ℕ → Type 0 = λ l. IsUtf8 l in
    subst P (chars_from_encodes added.tokens after (subst Q same utf8)
    (sym (added.behind ∙ ap (λ l. l ++ encode_utf8_all added.tokens) nothing))) added.is
