-- Text as a stream of characters.
use Rattle.std.specs.Prelude.{◌≡◌, ℕ, ◌+◌, ◌<◌, List, [], ◌∷◌, length, take, Option, Some}
use Rattle.std.specs.Prelude.{None, MatchOption}
use Rattle.std.specs.Borrow.{Bor}
use Rattle.std.specs.Char.{IsScalar, len_utf8, encode_utf8}
use Rattle.std.specs.List.{All, sum_by}
use Rattle.std.specs.Str.{chars, encode_utf8_all, IsUtf8}
use Rattle.std.specs.declared.str.CharIndices.{CharIndices}
use Rattle.std.specs.Str.Iter.{char_indices_rest, char_indices_offset, char_indices_steps}
use Rattle.std.proofs.Common.{refl, sym, ap, ◌∙◌, arith}
use Rattle.std.proofs.lemmas.List.{nil_from_length, length-append}
use Rattle.std.proofs.lemmas.List.Sums.{sum_by-append, sum_by-cons}
use Rattle.std.proofs.lemmas.Str.{chars-nil, encodes-chars, length-encode}
use Rattle.std.proofs.lemmas.Str.{len_utf8_bounds}
use Rattle.streams.specs.Following.{Following}
use Rattle.streams.specs.Input.{Input, at_start, no_status}
use Rattle.streams.specs.Reading.{Reading, ShowsOneList}
use Rattle.streams.specs.Stream.{with_offsets}
use Rattle.streams.specs.Utf8.{chars-encode, chars_all}

-- the bytes that characters take
abbrev pub width : List ℕ → ℕ
width cs = sum_by len_utf8 cs

-- each character takes at least one byte
pub width_positive : (c : ℕ) (cs : List ℕ) → 0 < width (c ∷ cs)
width_positive c cs = omega (arith, sum_by-cons len_utf8 c cs, (len_utf8_bounds c).0)

-- characters take as many bytes as they are spelled with
pub length_encodes : (cs : List ℕ) → length (encode_utf8_all cs) ≡ width cs
length_encodes [] = refl
length_encodes (c ∷ cs) =
    length-append (encode_utf8 c) (encode_utf8_all cs)
    ∙ ap (λ n. n + length (encode_utf8_all cs)) (length-encode c)
    ∙ ap (λ n. len_utf8 c + n) (length_encodes cs) ∙ sym (sum_by-cons len_utf8 c cs)

-- the bytes of a text are those that its characters take
pub width_chars : (text : List ℕ) → IsUtf8 text → width (chars text) ≡ length text
width_chars text utf8 =
    sym (length_encodes (chars text)) ∙ ap (λ bytes. length bytes) (encodes-chars text utf8)

-- any characters may come after a text
abbrev pub text_follows : Following ℕ
text_follows = record {
  can_follow = λ left more. All IsScalar more;
  kept = λ dropped later more f. f;
}

-- The view of the bytes of a text: the characters that they encode, without an offset, as complete
-- input.
abbrev pub text_input : List ℕ → Input ℕ
text_input bytes = record { left = at_start (chars bytes); status = no_status }

-- Characters are counted by their bytes, and a slice shows the characters whose UTF-8 it is.
abbrev pub text_reading : Reading ℕ (Bor (List ℕ))
text_reading = record {
  units = width;
  advance = λ place _. place;
  shows = λ s tokens. s.now ≡ encode_utf8_all tokens;
  units_add = λ xs ys. sum_by-append len_utf8 xs ys;
  units_positive = λ c cs. width_positive c cs;
  advance_none = λ p. refl;
  advance_add = λ p m n. refl;
  advance_further = λ p n k. refl;
  one_length = λ s xs ys p q. sym (length_encodes xs) ∙ ap (λ l. length l) (sym p ∙ q)
      ∙ length_encodes ys;
}

-- a slice spells the characters that it shows
pub shown_chars : (s : Bor (List ℕ)) (tokens : List ℕ) → text_reading.shows s tokens
    → chars s.now ≡ tokens
shown_chars s tokens shown = ap chars shown ∙ chars_all tokens

-- so it shows one list of them
pub one_text : ShowsOneList text_reading
one_text s xs ys p q = sym (shown_chars s xs p) ∙ shown_chars s ys q

-- the characters that an iterator has still to give, each with its offset
abbrev pub chars_left : CharIndices → List (ℕ × ℕ)
chars_left s = with_offsets width (char_indices_offset s) (chars (char_indices_rest s))

-- A step of the iterator gives the first of the characters still to come.
pub chars_left_step : (s : CharIndices) (r : Option (ℕ × ℕ)) (t : CharIndices)
    → char_indices_steps s r t
    → MatchOption r (chars_left s ≡ []) (λ x. chars_left s ≡ (x.0, x.1) ∷ chars_left t)
chars_left_step s None t (none, _) =
    ap (λ bytes. with_offsets width (char_indices_offset s) (chars bytes))
    (nil_from_length _ none)
    ∙ ap (λ cs. with_offsets width (char_indices_offset s) cs) chars-nil
chars_left_step s (Some x) t (start, bytes, passed) =
    let next : char_indices_offset t ≡ char_indices_offset s + width (x.1 ∷ []) =
    omega (arith, passed, length-encode x.1, sum_by-cons len_utf8 x.1 []) in
    ap (λ b. with_offsets width (char_indices_offset s) (chars b)) bytes
    ∙ ap (λ cs. with_offsets width (char_indices_offset s) cs)
    (chars-encode x.1 (char_indices_rest t))
    ∙ ap (λ n. (n, x.1) ∷ with_offsets width (char_indices_offset s + width (x.1 ∷ []))
    (chars (char_indices_rest t))) (sym start)
    ∙ ap (λ n. (x.0, x.1) ∷ with_offsets width n (chars (char_indices_rest t))) (sym next)
