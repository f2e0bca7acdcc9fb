-- The line of an offset, in terms of the bytes before and after it.
use Rattle.std.proofs.Common.{◌≡◌, ◌∙◌, ◌+◌, ◌-◌, ◌≤◌, ◌<◌, ◌⊎◌, ℕ, List, ◌∷◌, []}
use Rattle.std.proofs.Common.{◌++◌, length}
use Rattle.std.proofs.Common.{ap, arith, inl, inr, refl, subst, sym, take, drop, min}
use Rattle.std.proofs.lemmas.Bool.{cases_lt}
use Rattle.std.proofs.lemmas.List.{get_or_append_left, get_or-append_right, get_or-append-add}
use Rattle.std.proofs.lemmas.List.{drop-take, get_or-drop, get_or-take, get_or_at, length-append}
use Rattle.std.proofs.lemmas.List.{length-drop, length-take, length-take-le, take-append-drop}
use Rattle.std.proofs.lemmas.List.{take_at, take-take}
use Rattle.std.specs.List.{AllWithin, slice_index}
use Rattle.text_positions.specs.Excerpt.{EndsWithReturn, IsLine, IsLineShown}
use Rattle.text_positions.specs.Position.{IsWithinLine}

begins_in : (before behind : List ℕ) (start : ℕ) → start ≤ length before
    → (start ≡ 0) ⊎ (slice_index before (start - 1) ≡ 10)
    → (start ≡ 0) ⊎ (slice_index (before ++ behind) (start - 1) ≡ 10)
begins_in before behind start bound (inl none) = inl none
begins_in before behind start bound (inr feed) =
    elim (cases_lt 0 start) [
      | inl some ↦
          inr (get_or_append_left before behind 0 (start - 1) (omega (arith, some, bound)) ∙ feed)
      | inr none ↦ inl (omega (arith, none))
    ]

ends_in : (before behind : List ℕ) (n : ℕ)
    → (n ≡ length behind) ⊎ (slice_index behind n ≡ 10)
    → (length before + n ≡ length (before ++ behind))
    ⊎ (slice_index (before ++ behind) (length before + n) ≡ 10)
ends_in before behind n (inl all) = inl (omega (arith, all, length-append before behind))
ends_in before behind n (inr feed) = inr (get_or-append-add before behind n 0 ∙ feed)

one_in : (before behind : List ℕ) (start n : ℕ)
    → AllWithin IsWithinLine before start (length before) → AllWithin IsWithinLine behind 0 n
    → AllWithin IsWithinLine (before ++ behind) start (length before + n)
one_in before behind start n here there k d low high feed =
    elim (cases_lt k (length before)) [
      | inl within ↦ here k d low within (sym (get_or_append_left before behind d k within) ∙ feed)
      | inr beyond ↦
          there (k - length before) d (omega arith) (omega (arith, high, beyond))
          (sym (get_or-append_right before behind (length before) k d refl beyond) ∙ feed)
    ]

pub line_in : (before behind : List ℕ) (start n : ℕ) → start ≤ length before
    → (start ≡ 0) ⊎ (slice_index before (start - 1) ≡ 10)
    → AllWithin IsWithinLine before start (length before) → n ≤ length behind
    → (n ≡ length behind) ⊎ (slice_index behind n ≡ 10) → AllWithin IsWithinLine behind 0 n
    → IsLine (before ++ behind) start (length before + n)
line_in before behind start n bound begins here some ends there = (
  omega (arith, bound),
  omega (arith, some, length-append before behind),
  begins_in before behind start bound begins,
  one_in before behind start n here there,
  ends_in before behind n ends,
)

pub between_places : (bytes : List ℕ) (start end : ℕ) → start ≤ end
    → take (end - start) (drop start bytes) ≡ drop start (take end bytes)
between_places bytes start end ordered =
    let at : start + (end - start) ≡ end = omega (arith, ordered) in
    sym (subst (λ n. drop start (take n bytes) ≡ take (end - start) (drop start bytes)) at
    (drop-take start (end - start) bytes))

last_is : (bytes rest : List ℕ) (start end last : ℕ) → start ≤ end → end ≤ length bytes
    → take (end - start) (drop start bytes) ≡ rest ++ last ∷ []
    → (start + length rest + 1 ≡ end) × (slice_index bytes (end - 1) ≡ last)
last_is bytes rest start end last ordered bound is =
    let size : end - start ≡ length rest + 1 =
    sym (length-take-le (end - start) (drop start bytes)
    (omega (arith, ordered, bound, length-drop start bytes)))
    ∙ ap (λ l. length l) is ∙ length-append rest (last ∷ []) in
    let place : start + length rest ≡ end - 1 = omega (arith, size, ordered) in (
      omega (arith, size, ordered),
      ap (λ n. slice_index bytes n) (sym place)
          ∙ sym (get_or-drop start bytes (length rest) 0)
          ∙ sym (get_or-take (end - start) (drop start bytes) (length rest) 0 (omega (arith, size)))
          ∙ ap (λ l. slice_index l (length rest)) is
          ∙ get_or_at rest last [] 0 (length rest) refl,
    )

front_is : (bytes rest : List ℕ) (start end last : ℕ) → start ≤ end → end ≤ length bytes
    → take (end - start) (drop start bytes) ≡ rest ++ last ∷ []
    → rest ≡ drop start (take (end - 1) bytes)
front_is bytes rest start end last ordered bound is =
    let at = (last_is bytes rest start end last ordered bound is).0 in
    let place : start + length rest ≡ end - 1 = omega (arith, at) in
    sym (take_at rest (last ∷ []) (length rest) refl)
    ∙ ap (λ l. take (length rest) l) (sym is)
    ∙ take-take (length rest) (end - start) (drop start bytes) (omega (arith, at))
    ∙ sym (drop-take start (length rest) bytes)
    ∙ ap (λ n. drop start (take n bytes)) place

whole_is : (bytes before behind : List ℕ) (offset : ℕ) → before ≡ take offset bytes
    → behind ≡ drop offset bytes → before ++ behind ≡ bytes
whole_is bytes before behind offset is_before is_behind =
    ap (λ l. l ++ behind) is_before ∙ ap (λ l. take offset bytes ++ l) is_behind
    ∙ take-append-drop offset bytes

pub whole_size : (bytes before behind : List ℕ) (offset : ℕ) → before ≡ take offset bytes
    → behind ≡ drop offset bytes → length before + length behind ≡ length bytes
whole_size bytes before behind offset is_before is_behind =
    sym (length-append before behind)
    ∙ ap (λ l. length l) (whole_is bytes before behind offset is_before is_behind)

-- the facts that `line` establishes about the start and the end of the line
pub record Places (bytes : List ℕ) (offset start end : ℕ) : Type 0 where
  pub line : IsLine bytes start end
  pub from : start ≤ min offset (length bytes)
  pub upto : min offset (length bytes) ≤ end

pub places : (bytes before behind : List ℕ) (offset start n : ℕ) → before ≡ take offset bytes
    → behind ≡ drop offset bytes → start ≤ length before
    → (start ≡ 0) ⊎ (slice_index before (start - 1) ≡ 10)
    → AllWithin IsWithinLine before start (length before) → n ≤ length behind
    → (n ≡ length behind) ⊎ (slice_index behind n ≡ 10) → AllWithin IsWithinLine behind 0 n
    → Places bytes offset start (length before + n)
places bytes before behind offset start n is_before is_behind bound begins here some ends there =
    let size : length before ≡ min offset (length bytes) =
    ap (λ l. length l) is_before ∙ length-take offset bytes in
    record {
      line = subst (λ l. IsLine l start (length before + n))
          (whole_is bytes before behind offset is_before is_behind)
          (line_in before behind start n bound begins here some ends there);
      from = omega (arith, size, bound);
      upto = omega (arith, size);
    }

-- a line that a carriage return ends, before a line feed
pub shown_before_return : (bytes rest : List ℕ) (offset start end last : ℕ)
    → Places bytes offset start end
    → take (end - start) (drop start bytes) ≡ rest ++ last ∷ [] → last ≡ 13 → end < length bytes
    → IsLineShown bytes offset rest
shown_before_return bytes rest offset start end last it is returns more =
    let told = last_is bytes rest start end last it.line.0 it.line.1 is in (
      start,
      end,
      it.line,
      it.from,
      it.upto,
      inl (
        (omega (arith, told.0), more, told.1 ∙ returns),
        front_is bytes rest start end last it.line.0 it.line.1 is,
      ),
    )

-- a line that none ends, ...
pub shown_whole : (bytes : List ℕ) (offset start end : ℕ) → Places bytes offset start end
    → (EndsWithReturn bytes start end → ⊥)
    → IsLineShown bytes offset (take (end - start) (drop start bytes))
shown_whole bytes offset start end it none = (
  start,
  end,
  it.line,
  it.from,
  it.upto,
  inr (none, between_places bytes start end it.line.0),
)

-- ... and if its last byte is not a carriage return, ...
pub shown_with_last : (bytes rest : List ℕ) (offset start end last : ℕ)
    → Places bytes offset start end
    → take (end - start) (drop start bytes) ≡ rest ++ last ∷ [] → (last ≡ 13 → ⊥)
    → IsLineShown bytes offset (take (end - start) (drop start bytes))
shown_with_last bytes rest offset start end last it is none =
    shown_whole bytes offset start end it
    (λ (_, _, returns). none (sym (last_is bytes rest start end last it.line.0 it.line.1 is).1
    ∙ returns))

-- ... where the bytes end with it, ...
pub shown_at_end : (bytes : List ℕ) (offset start end : ℕ) → Places bytes offset start end
    → length bytes ≤ end → IsLineShown bytes offset (take (end - start) (drop start bytes))
shown_at_end bytes offset start end it all =
    shown_whole bytes offset start end it (λ (_, more, _). omega (arith, more, all))
