-- The character of an escape, by the number of its bytes.
use Rattle.std.proofs.Common.{◌*◌, ◌++◌, ◌+◌, ◌-◌, ◌<◌, ◌∙◌, ◌∷◌, ◌≡◌, ◌≤◌, ◌⊎◌}
use Rattle.std.proofs.Common.{[], ℕ, List, ap, arith, inl, inr, length, length-append, refl}
use Rattle.std.proofs.Common.{slice_index_or, subst, sym}
use Rattle.std.proofs.lemmas.List.{append-nil}
use Rattle.std.specs.Char.{IsScalar, encode_utf8}
use Rattle.std.proofs.lemmas.Str.{len_utf8_bounds, length-encode}
use Rattle.format_json_extents.proofs.Matching.{given_byte_then_is_cons}
use Rattle.format_json_extents.proofs.Written.Escapes.{EscapedText, free_scalar, high_scalar}
use Rattle.format_json_extents.proofs.Written.Escapes.{pair_joins, pair_text}
use Rattle.format_json_extents.proofs.Written.Units.{IsHighSurrogate, IsLowSurrogate}
use Rattle.format_json_extents.proofs.Written.Units.{high_surrogate_ranges, low_surrogate_ranges}
use Rattle.format_json_extents.proofs.Written.Units.{non_surrogate_ranges, unit_in, unit_list}
use Rattle.format_json_extents.proofs.Written.Units.{unit_size}
use Rattle.format_json_extents.specs.Strings.{BeginNonSurrogate, IsCodeUnit, IsEscape}
use Rattle.format_json_extents.specs.Strings.{IsSurrogatePair}
use Rattle.format_json_texts.specs.Strings.{EscapeText, StandsFor, UnicodeText}
use Rattle.format_parts.specs.Hexadecimal.{UnitText}
use Rattle.format_parts.specs.Words.{Whichever}
use Rattle.grammars.specs.Texts.{BothText as Both, EitherText, MadeText, Spelled}

slashed : (c : ℕ) (escape : List ℕ) → EscapedText c escape → EscapeText c (92 ∷ escape)
unfolding Both Spelled
slashed c escape x = (92, c, 92 ∷ [], escape, (refl, refl), x, refl, refl)

unicode : (c : ℕ) (digits escape : List ℕ) → UnicodeText c digits → escape ≡ 117 ∷ digits
    → EscapeText c (92 ∷ escape)
unfolding EitherText Both Spelled
unicode c digits escape x e =
    slashed c escape (inr (117, c, 117 ∷ [], digits, (refl, refl), x, e, refl))

letter_text : (b k : ℕ) → StandsFor b k → EscapeText k (92 ∷ b ∷ [])
unfolding EitherText MadeText Whichever
letter_text b k is = slashed k (b ∷ []) (inl (b, refl, is))

pub short : (c n : ℕ) → 4 ≤ n → length (encode_utf8 c) ≤ n
short c n more = omega (arith, more, length-encode c, (len_utf8_bounds c).1)

-- the byte of a number
abbrev pub at : List ℕ → ℕ → ℕ
at l i = slice_index_or l i 0

pub counted_letter : (l : List ℕ) (k : ℕ) → 1 ≤ length l → length l < 2 → StandsFor (at l 0) k
    → EscapeText k (92 ∷ l)
counted_letter [] k least most is = absurd (omega (arith, least))
counted_letter (b ∷ []) k least most is = letter_text b k is
counted_letter (b ∷ c ∷ l) k least most is = absurd (omega (arith, most))

-- the bytes from a number on are four digits, and then more
unit_at : {P : ℕ → ℕ → Type 0} (u : ℕ) (cs more : List ℕ) → IsCodeUnit P cs
    → UnitText u (at (cs ++ more) 0 ∷ at (cs ++ more) 1 ∷ at (cs ++ more) 2 ∷ at (cs ++ more) 3
    ∷ []) → UnitText u cs
unit_at u cs more is =
    subst (λ l. UnitText u (at (l ++ more) 0 ∷ at (l ++ more) 1 ∷ at (l ++ more) 2
    ∷ at (l ++ more) 3 ∷ []) → UnitText u l) (sym (unit_list cs is)) (λ x. x)

-- an escape of one unit
pub record Single (l : List ℕ) (u : ℕ) : Type 0 where
  pub scalar : IsScalar u
  pub text : EscapeText u (92 ∷ l)

pub counted_single : {l : List ℕ} {u : ℕ} → IsEscape l → 5 ≤ length l → length l < 6
    → UnitText u (at l 1 ∷ at l 2 ∷ at l 3 ∷ at l 4 ∷ []) → Single l u
unfolding EitherText MadeText
counted_single (inl is) least most x = absurd (omega (arith, least, ap (λ l. length l) is.alone))
counted_single {l} {u} (inr is) least most x =
    by is.second is.is_second (given_byte_then_is_cons 117 is)
  where
    by : (cs : List ℕ) → IsCodeUnit BeginNonSurrogate cs ⊎ IsSurrogatePair cs → l ≡ 117 ∷ cs
        → Single l u
    by cs (inl unit) e =
        let y = unit_at u cs [] unit
        (subst (λ m. UnitText u (at m 1 ∷ at m 2 ∷ at m 3 ∷ at m 4 ∷ []))
        (e ∙ ap (λ m. 117 ∷ m) (sym (append-nil cs))) x) in
        let free = unit_in non_surrogate_ranges cs u y unit in
        record { scalar = free_scalar u free; text = unicode u cs l (inl (u, y, (refl, free))) e }
    by cs (inr pair) e =
        absurd (omega (
          arith,
          most,
          ap (λ m. length m) (e ∙ ap (λ m. 117 ∷ m) (pair_joins cs pair)),
          length-append pair.first (92 ∷ 117 ∷ pair.is_second.is_second.second),
          unit_size pair.first pair.is_first,
        ))

-- an escape of two units
pub record Double (l : List ℕ) (high low : ℕ) : Type 0 where
  pub is_high : IsHighSurrogate high
  pub is_low : IsLowSurrogate low
  pub scalar : IsScalar (65536 + (high - 55296) * 1024 + (low - 56320))
  pub text : EscapeText (65536 + (high - 55296) * 1024 + (low - 56320)) (92 ∷ l)

pub counted_double : {l : List ℕ} {high low : ℕ} → IsEscape l → 11 ≤ length l → length l < 12
    → UnitText high (at l 1 ∷ at l 2 ∷ at l 3 ∷ at l 4 ∷ [])
    → UnitText low (at l 7 ∷ at l 8 ∷ at l 9 ∷ at l 10 ∷ []) → Double l high low
unfolding EitherText
counted_double (inl is) least most x y =
    absurd (omega (arith, least, ap (λ l. length l) is.alone))
counted_double {l} {high} {low} (inr is) least most x y =
    by is.second is.is_second (given_byte_then_is_cons 117 is)
  where
    by : (cs : List ℕ) → IsCodeUnit BeginNonSurrogate cs ⊎ IsSurrogatePair cs → l ≡ 117 ∷ cs
        → Double l high low
    by cs (inl unit) e =
        absurd (omega (arith, least, unit_size cs unit, ap (λ m. length m) e))
    by cs (inr pair) e =
        let first = pair.first in
        let letter = pair.is_second.is_second in
        let last = letter.second in
        let all = e ∙ ap (λ m. 117 ∷ m) (pair_joins cs pair) in
        let more = 92 ∷ 117 ∷ last in
        let v = unit_at high first more pair.is_first
        (subst (λ m. UnitText high (at m 1 ∷ at m 2 ∷ at m 3 ∷ at m 4 ∷ [])) all x) in
        let w = unit_at low last [] letter.is_second
        (subst (λ m. UnitText low (at m 7 ∷ at m 8 ∷ at m 9 ∷ at m 10 ∷ []))
        (all ∙ ap (λ m. 117 ∷ (first ++ 92 ∷ 117 ∷ m)) (sym (append-nil last))
        ∙ ap (λ m. 117 ∷ (m ++ 92 ∷ 117 ∷ (last ++ []))) (unit_list first pair.is_first)) y) in
        let is_high = unit_in high_surrogate_ranges first high v pair.is_first in
        let is_low = unit_in low_surrogate_ranges last low w letter.is_second in
        let k = 65536 + (high - 55296) * 1024 + (low - 56320) in
        record {
          is_high = is_high;
          is_low = is_low;
          scalar = high_scalar k (omega (arith, is_high)) (omega (arith, is_high, is_low));
          text = unicode k cs l (inr (pair_text k high low first last cs v w
              (pair_joins cs pair) is_high is_low refl)) e;
        }
