-- A text without the whitespace at both ends.
use Rattle.std.proofs.Common.{◌≡◌, ◌∙◌, ◌⊎◌, ◌≤◌, ◌<◌, ◌+◌, ◌-◌, ◌++◌, ◌∷◌, [], ap}
use Rattle.std.proofs.Common.{ℕ, List}
use Rattle.std.proofs.Common.{length, take, drop, sym, subst, arith, inl, inr, get_or}
use Rattle.std.proofs.Common.{length-append, length-drop}
use Rattle.std.proofs.Math.Seq.{get_or-append_seam}
use Rattle.std.proofs.lemmas.Bool.{cases_lt}
use Rattle.std.proofs.lemmas.List.{take-append-drop, drop-drop, drop_all, length-take}
use Rattle.std.proofs.lemmas.List.{get_or-append-add, get_or_append_left}
use Rattle.std.specs.List.{All}
use Rattle.format_http.specs.Heads.Bytes.{IsWhite}
use Rattle.format_http.specs.Heads.FieldLine.{BeginsBare}
use Rattle.format_http_places.specs.Places.{IsBare}
use Rattle.format_http_places.specs.Runs.{NotFirst, SoMany}

-- the first byte is none of these, and so none of a beginning is
bare_of : (text value behind : List ℕ) → text ≡ value ++ behind → NotFirst IsWhite text
    → BeginsBare value
bare_of text value behind splits not b more e white =
    let P : List ℕ → Type 0 = λ l. NotFirst IsWhite l in
    subst P (splits ∙ ap (λ l. l ++ behind) e) not white

-- the last byte of the middle part
last_at : (before value behind front : List ℕ) (b : ℕ) → value ≡ front ++ b ∷ []
    → get_or (before ++ (value ++ behind)) (length before + length front) 0 ≡ b
last_at before value behind front b e =
    let less : length front < length value =
    omega (arith, ap length e, length-append front (b ∷ [])) in
    get_or-append-add before (value ++ behind) (length front) 0
    ∙ get_or_append_left value behind 0 (length front) less
    ∙ ap (λ l. get_or l (length front) 0) e ∙ get_or-append_seam front b [] 0

module _ (text : List ℕ) (offset end : ℕ) (white : SoMany IsWhite text offset)
    (least : offset ≤ end) (most : end ≤ length text)
    (some : offset < length text → offset < end) (behind_white : All IsWhite (drop end text))
    (stops : (end ≤ offset) ⊎ (IsWhite (get_or text (end - 1) 0) → ⊥)) where
  abbrev before : List ℕ
  before = take offset text

  abbrev value : List ℕ
  value = take (end - offset) (drop offset text)

  back : drop offset text ≡ value ++ drop end text
  back = sym (take-append-drop (end - offset) (drop offset text))
      ∙ ap (λ l. value ++ l) (drop-drop (end - offset) offset text
      ∙ ap (λ n. drop n text) (omega arith))

  whole : text ≡ before ++ (value ++ drop end text)
  whole = sym (take-append-drop offset text) ∙ ap (λ l. before ++ l) back

  long : length before ≡ offset
  long = omega (arith, length-take offset text, least, most)

  wide : length value ≡ end - offset
  wide = omega (arith, length-take (end - offset) (drop offset text), length-drop offset text, most)

  ends : (b : ℕ) (front : List ℕ) → value ≡ front ++ b ∷ [] → IsWhite b → ⊥
  ends b front e is =
      let size : length value ≡ length front + 1 =
      ap length e ∙ length-append front (b ∷ []) in
      elim stops [
        | inl none ↦ omega (arith, none, size, wide)
        | inr other ↦
            let at : length before + length front ≡ end - 1 = omega (arith, size, wide, long) in
            other (subst IsWhite (sym (ap (λ l. get_or l (end - 1) 0) whole
            ∙ ap (λ n. get_or (before ++ (value ++ drop end text)) n 0) (sym at)
            ∙ last_at before value (drop end text) front b e)) is)
      ]

  at_last : value ≡ [] → drop end text ≡ []
  at_last e = elim (cases_lt offset (length text)) [
    | inl less ↦ absurd (omega (arith, some less, ap length e, wide))
    | inr past ↦ drop_all end text (omega (arith, past, least))
  ]

  pub bare_is : IsBare text (record { offset = offset; length = end - offset })
  bare_is = record {
    before = before;
    value = value;
    behind = drop end text;
    splits = whole;
    white_before = white.0.1;
    white_behind = behind_white;
    begins_bare = bare_of (drop offset text) value (drop end text) back white.1;
    ends_bare = ends;
    begins = sym long;
    ends = sym wide;
    at_end = at_last;
  }
