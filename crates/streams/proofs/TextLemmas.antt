-- Lemmas about the characters and the offsets of a text.
use Rattle.std.proofs.Common.{◌≡◌, ◌∙◌, ◌+◌, ◌&&◌, ℕ, Bool, true, false, List, [], ◌∷◌, ◌++◌}
use Rattle.std.proofs.Common.{length, take, drop, Option, Some, None, is_some, true≢false, Bor}
use Rattle.std.proofs.Common.{refl, sym, ap, subst, arith, append_assoc, length-append}
use Rattle.std.proofs.Common.{encode_utf8_all, IsUtf8, IsCharBoundary, chars}
use Rattle.std.specs.Char.{len_utf8}
use Rattle.std.specs.Str.{all_scalars}
use Rattle.std.specs.Str.Iter.{char_indices_rest, char_indices_offset, char_indices_steps}
use Rattle.std.specs.declared.str.CharIndices.{CharIndices}
use Rattle.std.proofs.lemmas.List.{append-nil, nil_from_length, take_at, drop_at}
use Rattle.std.proofs.lemmas.List.Sums.{sum_by-append, sum_by-cons}
use Rattle.std.proofs.lemmas.Str.{chars-nil, encodes-append, encodes-chars, scalars-chars}
use Rattle.std.proofs.lemmas.Str.{length-encode, IsCharBoundary-at_seam}
use Rattle.streams.specs.Input.{Passes, Takes}
use Rattle.streams.specs.Text.{width, text_input, text_reading, length_encodes}
use Rattle.streams.specs.Utf8.{chars-encode, chars_all}

-- ---- characters and the bytes that spell them

both_true : (a b : Bool) → (a && b) ≡ true → (a ≡ true) × (b ≡ true)
both_true true b h = (refl, h)
both_true false b h = (h, cc)

-- where all are scalar values, those of the second part are
later_scalars : (front rest : List ℕ) → all_scalars (front ++ rest) ≡ true → all_scalars rest ≡ true
later_scalars [] rest h = h
later_scalars (c ∷ front) rest h =
    later_scalars front rest (both_true _ (all_scalars (front ++ rest)) h).1

-- from one text to another whose characters follow some first ones
pub passes_chars : (front text rest : List ℕ) → chars text ≡ front ++ chars rest
    → Passes text_reading front (text_input text) (text_input rest)
passes_chars front text rest splits =
    record { tokens = splits; place = refl; possible = refl; status = refl }

pub passes_all : (text rest : List ℕ) → rest ≡ []
    → Passes text_reading (chars text) (text_input text) (text_input rest)
passes_all text rest none =
    passes_chars (chars text) text rest
    (sym (append-nil (chars text))
    ∙ ap (λ l. chars text ++ l) (sym (ap chars none ∙ chars-nil)))

-- ---- a text that is cut between two characters
module _ (text front rest : List ℕ) (utf8 : IsUtf8 text) (splits : chars text ≡ front ++ rest)
    (offset : ℕ) (at : offset ≡ width front) where
  seam : text ≡ encode_utf8_all front ++ encode_utf8_all rest
  seam = sym (encodes-chars text utf8) ∙ ap encode_utf8_all splits ∙ encodes-append front rest

  behind_front : length (encode_utf8_all front) ≡ offset
  behind_front = length_encodes front ∙ sym at

  pub boundary : IsCharBoundary text offset
  boundary = subst (λ (n : ℕ). IsCharBoundary text n) behind_front
      (IsCharBoundary-at_seam text (encode_utf8_all front) (encode_utf8_all rest) seam (
        rest,
        (
          later_scalars front rest (sym (ap all_scalars splits) ∙ scalars-chars text utf8),
          refl,
        ),
      ))

  bytes_before : take offset text ≡ encode_utf8_all front
  bytes_before = ap (λ bytes. take offset bytes) seam
      ∙ take_at (encode_utf8_all front) (encode_utf8_all rest) offset behind_front

  chars_behind : chars (drop offset text) ≡ rest
  chars_behind = ap (λ bytes. chars (drop offset bytes)) seam
      ∙ ap chars (drop_at (encode_utf8_all front) (encode_utf8_all rest) offset behind_front)
      ∙ chars_all rest

  pub takes_front : (slice : Bor (List ℕ)) (later : List ℕ) → slice.now ≡ take offset text
      → later ≡ drop offset text
      → Takes text_reading front (text_input text) slice (text_input later)
  takes_front slice later before behind = record {
    shown = before ∙ bytes_before;
    passed = passes_chars front text later
        (splits ∙ ap (λ cs. front ++ cs) (sym (ap chars behind ∙ chars_behind)));
  }

-- ---- loops over the characters with their offsets

-- The characters `front` of a text are passed, `P` holds for them, and the iterator is at the rest.
pub record Passed (P : List ℕ → Type 0) (text : List ℕ) (s : CharIndices) : Type 0 where
  pub front : List ℕ
  pub splits : chars text ≡ front ++ chars (char_indices_rest s)
  pub offset : char_indices_offset s ≡ width front
  pub known : P front

-- the next character is the first of those left
pub next_splits : (P : List ℕ → Type 0) (text : List ℕ) (s t : CharIndices) (x : ℕ × ℕ)
    → char_indices_steps s (Some x) t → (p : Passed P text s)
    → chars text ≡ p.front ++ x.1 ∷ chars (char_indices_rest t)
next_splits P text s t x step p =
    p.splits ∙ ap (λ bytes. p.front ++ chars bytes) step.1
    ∙ ap (λ cs. p.front ++ cs) (chars-encode x.1 (char_indices_rest t))

-- one character more is passed
pub passed_more : (P Q : List ℕ → Type 0) (text : List ℕ) (s t : CharIndices) (x : ℕ × ℕ)
    → char_indices_steps s (Some x) t → ((front : List ℕ) → P front → Q (front ++ x.1 ∷ []))
    → Passed P text s → Passed Q text t
passed_more P Q text s t x step more p = record {
  front = p.front ++ x.1 ∷ [];
  splits = next_splits P text s t x step p
      ∙ sym (append_assoc p.front (x.1 ∷ []) (chars (char_indices_rest t)));
  offset = omega (
    arith,
    step.2,
    p.offset,
    length-encode x.1,
    sum_by-append len_utf8 p.front (x.1 ∷ []),
    sum_by-cons len_utf8 x.1 [],
  );
  known = more p.front p.known;
}

-- where the iterator gives nothing, all characters are passed
pub known_at_end : (P : List ℕ → Type 0) (text : List ℕ) (s : CharIndices) (r : Option (ℕ × ℕ))
    (t : CharIndices) → is_some r ≡ false → char_indices_steps s r t → Passed P text s
    → P (chars text)
known_at_end P text s None t none step p =
    let all : chars text ≡ p.front =
    p.splits ∙ ap (λ bytes. p.front ++ chars bytes) (nil_from_length _ step.0)
    ∙ ap (λ cs. p.front ++ cs) chars-nil ∙ append-nil p.front in
    subst P (sym all) p.known
known_at_end P text s (Some x) t none step p = absurd (true≢false none)

-- one character more is counted
pub counted_more : (n : ℕ) (text : List ℕ) (s : CharIndices) (r : Option (ℕ × ℕ))
    (t : CharIndices) → is_some r ≡ true → char_indices_steps s r t
    → Passed (λ front. n ≡ length front) text s → Passed (λ front. n + 1 ≡ length front) text t
counted_more n text s None t some step p = absurd (true≢false (sym some))
counted_more n text s (Some x) t some step p =
    passed_more (λ front. n ≡ length front) (λ front. n + 1 ≡ length front) text s t x step
    (λ front counted. omega (arith, length-append front (x.1 ∷ []))) p
