-- Proofs that what is written is a JSON text (RFC 8259), and that its whitespace is ASCII.
use Rattle.std.specs.Prelude.{◌≡◌, ◌≤◌, ◌+◌, ◌++◌, ℕ, zero, suc, List, [], ◌∷◌, encode_utf8_all}
use Rattle.std.specs.Prelude.{replicate}
use Rattle.std.specs.Char.{encode_utf8}
use Rattle.std.specs.List.{All}
use Rattle.std.specs.declared.vec.Vec.{Vec}
use Rattle.std.proofs.Common.{refl, sym, ap, inl, inr, ◌∙◌, append_assoc, arith}
use Rattle.std.proofs.lemmas.List.{append-nil, replicate-append-replicate}
use Rattle.std.proofs.lemmas.List.Elements.{All-cons, All-nil}
use Rattle.format_json_texts.specs.Strings.{StringText}
use Rattle.format_json_texts.specs.Values.{Mark, MemberText, ScalarText, ValueText}
use Rattle.format_json_texts.specs.declared.value.Value.{Value}
use Rattle.format_json_writer.specs.Layout.{CompactScalar, CompactString, LaidItems, LaidList}
use Rattle.format_json_writer.specs.Layout.{LaidMark, LaidMember, LaidValue, deeper_of, line_in}
use Rattle.format_json_writer.specs.Layout.{line_of, space_of}
use Rattle.format_json_writer.specs.declared.layout.Layout.{Layout}
use Rattle.format_json_writer.specs.declared.layout.Layout.TheVariants as layouts
use Rattle.format_json_writer.proofs.Canonical.{string_canonical}
use Rattle.format_json_writer.proofs.Within.{EndsIn, IsWithin, ends_mark, ends_spaced, ends_then}
use Rattle.format_json_writer.proofs.Within.{mark_text, parted_ends, shown, within_among}
use Rattle.format_json_writer.proofs.Within.{within_first, within_for, within_mark, within_refl}
use Rattle.format_json_writer.proofs.Within.{within_second, within_spaced, within_then}
use Rattle.format_parts.specs.Words.{Between, One, pair}
use Rattle.grammars.specs.Texts.{BothText, GatheredText, InList, PartedText, Spelled, Text}
use Rattle.stream_sets.specs.Accumulator.Holds.{HasCharacters}
use Rattle.stream_sets.specs.AsChar.{IsMultispace}

-- ---- whitespace

spaces_all : (n : ℕ) → All IsMultispace (replicate n 32)
spaces_all zero = All-nil IsMultispace
spaces_all (suc n) = All-cons IsMultispace 32 (replicate n 32) (inl (inl refl)) (spaces_all n)

line_all : (layout : Layout) → All IsMultispace (line_of layout)
line_all layouts.Compact = All-nil IsMultispace
line_all (layouts.Lines now step) =
    All-cons IsMultispace 10 (replicate now 32) (inr (inr refl)) (spaces_all now)

space_all : (layout : Layout) → All IsMultispace (space_of layout)
space_all layouts.Compact = All-nil IsMultispace
space_all (layouts.Lines now step) = spaces_all 1

line_in_all : {O : Type 0} (os : List O) (layout : Layout) → All IsMultispace (line_in os layout)
line_in_all [] layout = All-nil IsMultispace
line_in_all (o ∷ os) layout = line_all layout

spaces_ascii : (n : ℕ) → encode_utf8_all (replicate n 32) ≡ replicate n 32
unfolding encode_utf8
spaces_ascii zero = refl
spaces_ascii (suc n) = ap (λ l. 32 ∷ l) (spaces_ascii n)

pub line_ascii : (layout : Layout) → encode_utf8_all (line_of layout) ≡ line_of layout
unfolding encode_utf8
line_ascii layouts.Compact = refl
line_ascii (layouts.Lines now step) = ap (λ l. 10 ∷ l) (spaces_ascii now)

pub space_ascii : (layout : Layout) → encode_utf8_all (space_of layout) ≡ space_of layout
unfolding encode_utf8
space_ascii layouts.Compact = refl
space_ascii (layouts.Lines now step) = refl

pub line_in_ascii : {O : Type 0} (os : List O) (layout : Layout)
    → encode_utf8_all (line_in os layout) ≡ line_in os layout
line_in_ascii [] layout = refl
line_in_ascii (o ∷ os) layout = line_ascii layout

-- ---- whitespace that is put, one space at a time

pub no_space : (bytes : List ℕ) → bytes ≡ bytes ++ replicate 0 32
no_space bytes = sym (append-nil bytes)

pub space_put : (before now after : List ℕ) (k : ℕ) → now ≡ before ++ replicate k 32
    → after ≡ now ++ 32 ∷ [] → after ≡ before ++ replicate (k + 1) 32
space_put before now after k e f =
    f ∙ ap (λ l. l ++ 32 ∷ []) e ∙ append_assoc before (replicate k 32) (32 ∷ [])
    ∙ ap (λ l. before ++ l) (replicate-append-replicate k 1 32)

-- a line feed and as many spaces
pub line_put : (before first after : List ℕ) (layout : Layout) (now step k : ℕ)
    → layout ≡ layouts.Lines now step → first ≡ before ++ 10 ∷ []
    → after ≡ first ++ replicate k 32 → k ≤ now → now ≤ k → after ≡ before ++ line_of layout
line_put before first after layout now step k is e f few most =
    let same : k ≡ now = omega (arith, few, most) in
    f ∙ ap (λ l. l ++ replicate k 32) e ∙ append_assoc before (10 ∷ []) (replicate k 32)
    ∙ ap (λ m. before ++ (10 ∷ replicate m 32)) same ∙ ap (λ x. before ++ line_of x) (sym is)

-- ---- lists

module _ {O : Type 0} {item outer : Text ℕ O} (within : IsWithin item outer)
    (last : EndsIn item outer) (far near : Layout) where
  items_told : (os : List O) (tokens : List ℕ) → LaidItems near item os tokens
      → PartedText (Mark 44) outer os (tokens ++ line_in os far)
  unfolding PartedText
  items_told [] tokens e = append-nil tokens ∙ e
  items_told (o ∷ os) tokens a =
      parted_ends (LaidMark 44 (line_of near)) (Mark 44) last within
      (within_mark 44 (line_of near) (line_all near) within)
      (ends_mark 44 (line_of near) (line_all near) last) o os tokens (line_of far) a (line_all far)

  pub list_within : {A : Type 0} (opening closing : ℕ)
      → IsWithin (LaidList {A = A} opening closing far near item)
      (Between (Mark opening) (InList (PartedText (Mark 44) outer)) (One closing))
  unfolding BothText InList Spelled
  list_within {A} opening closing = record {
    told = λ list tokens (m, found, xs, ys, a, (o, c, zs, ws, b, d, e, is), f, same). (
      (opening, shown (line_in list.items near)),
      found,
      xs,
      ys,
      mark_text opening m (line_in list.items near) xs (line_in_all list.items near) a,
      (
        o,
        closing,
        zs ++ line_in o.items far,
        closing ∷ [],
        items_told o.items zs b,
        (refl, refl),
        e ∙ ap (λ l. zs ++ l)
            (d.1 ∙ ap (λ (v : Vec O A). line_in v.items far ++ closing ∷ []) (same ∙ is))
            ∙ sym (append_assoc zs (line_in o.items far) (closing ∷ [])),
        is,
      ),
      f,
      same,
    );
  }

-- ---- values

module _ {A : Type 0} where
  string_within : IsWithin (CompactString {A = A}) (StringText HasCharacters)
  unfolding GatheredText
  string_within = record {
    told = λ string tokens (os, held, a). string_canonical string os tokens held a;
  }

  scalar_within : IsWithin (CompactScalar {A = A}) (ScalarText HasCharacters)
  scalar_within =
      within_among (within_first _ within_refl) (within_second _ (within_among
      (within_first _ within_refl)
      (within_second _ (within_for (λ o u is. is) string_within))))

  member_within : {inner outer : Text ℕ (Value A)} (layout : Layout) → IsWithin inner outer
      → IsWithin (LaidMember layout inner) (MemberText HasCharacters outer)
  member_within layout within =
      within_then pair (within_spaced string_within)
      (within_mark 58 (space_of layout) (space_all layout) (within_spaced within))

  member_ends : {inner outer : Text ℕ (Value A)} (layout : Layout) → IsWithin inner outer
      → EndsIn (LaidMember layout inner) (MemberText HasCharacters outer)
  member_ends layout within =
      ends_then pair (within_spaced string_within)
      (ends_mark 58 (space_of layout) (space_all layout) (ends_spaced within))

  pub value_within : (layout : Layout) (level : ℕ)
      → IsWithin (LaidValue {A = A} layout level) (ValueText HasCharacters level)
  unfolding LaidValue ValueText
  value_within layout zero = scalar_within
  value_within layout (suc level) =
      let near : Layout = deeper_of layout in
      let next : IsWithin (LaidValue {A = A} near level) (ValueText HasCharacters level) =
      value_within near level in
      within_among (within_first _ scalar_within) (within_second _ (within_among
      (within_first _ (within_for (λ o u is. is)
      (list_within (within_spaced next) (ends_spaced next) layout near 91 93)))
      (within_second _ (within_for (λ o u is. is)
      (list_within (member_within near next) (member_ends near next) layout near 123 125)))))

  -- a value that has no others in it is one of each level
  pub scalar_is_value : (layout : Layout) (level : ℕ)
      → IsWithin (CompactScalar {A = A}) (LaidValue layout level)
  unfolding LaidValue
  scalar_is_value layout zero = within_refl
  scalar_is_value layout (suc level) = within_first _ within_refl
