-- Proofs that an escape sequence encodes a character.
use Rattle.std.proofs.Common.{◌*◌, ◌++◌, ◌+◌, ◌-◌, ◌<◌, ◌∙◌, ◌∷◌, ◌≡◌, ◌≤◌, [], ℕ}
use Rattle.std.proofs.Common.{List, ap, append_assoc, arith, inl, inr, length, length-append, refl}
use Rattle.std.proofs.Math.Utf8.{low_scalar}
use Rattle.std.specs.Char.{IsScalar, encode_utf8}
use Rattle.std.proofs.lemmas.Bool.Decides.{nat_tests}
use Rattle.std.proofs.lemmas.Str.{len_utf8_ascii, len_utf8_bounds, length-encode}
use Rattle.format_json_extents.proofs.Matching.{given_byte_then_is_cons, one_byte_text}
use Rattle.format_json_extents.proofs.Matching.{then_of_parts}
use Rattle.format_json_extents.proofs.Written.Units.{IsHighSurrogate, IsLowSurrogate, NoSurrogate}
use Rattle.format_json_extents.proofs.Written.Units.{high_surrogate_ranges, low_surrogate_ranges}
use Rattle.format_json_extents.proofs.Written.Units.{non_surrogate_ranges, unit_set, unit_size}
use Rattle.format_json_extents.proofs.Written.Units.{unit_value}
use Rattle.format_json_extents.specs.Strings.{BeginNonSurrogate, IsCharacterCode, IsCodeUnit}
use Rattle.format_json_extents.specs.Strings.{IsEscape, IsEscaped, IsSurrogatePair}
use Rattle.format_json_texts.specs.Strings.{AreSurrogatePair, StandsFor, UnicodeText}
use Rattle.format_parts.specs.Hexadecimal.{IsAlone, UnitText}
use Rattle.format_parts.specs.Words.{For, One, Whichever, latter, pair}
use Rattle.grammars.specs.Texts.{BothText as Both, EitherText, MadeText, Spelled, Text}

-- ---- escapes

-- A character that these are the text of, and that takes no more bytes than they are characters.
pub record Means (text : Text ℕ ℕ) (cs : List ℕ) : Type 0 where
  pub char : ℕ
  pub written : text char cs
  pub scalar : IsScalar char
  pub size : length (encode_utf8 char) ≤ length cs

-- of a character that is written by as many characters as it may take bytes
means_long : (text : Text ℕ ℕ) (cs : List ℕ) (c : ℕ) → text c cs → IsScalar c → 4 ≤ length cs
    → Means text cs
means_long text cs c x scalar size = record {
  char = c;
  written = x;
  scalar = scalar;
  size = omega (arith, size, (len_utf8_bounds c).1, length-encode c);
}

pub high_scalar : (c : ℕ) → 57344 ≤ c → c < 1114112 → IsScalar c
high_scalar c least most = grind (arith, nat_tests, least, most)

pub free_scalar : (u : ℕ) → NoSurrogate u → IsScalar u
free_scalar u (inl less) = low_scalar u less
free_scalar u (inr more) = high_scalar u more.0 (omega (arith, more))

only_set : (c : ℕ) (cs : List ℕ) → For IsAlone UnitText c cs → IsCodeUnit BeginNonSurrogate cs
unfolding MadeText
only_set c cs (u, x, (e, is)) = unit_set non_surrogate_ranges cs u is x

only_value : (cs : List ℕ) → IsCodeUnit BeginNonSurrogate cs → Means (For IsAlone UnitText) cs
unfolding MadeText
only_value cs is =
    let (u, x, free) = unit_value non_surrogate_ranges cs is in
    means_long (For IsAlone UnitText) cs u (u, x, (refl, free)) (free_scalar u free)
    (omega (arith, unit_size cs is))

abbrev pub PairText : Text ℕ ℕ
PairText =
    For AreSurrogatePair (Both pair UnitText (Both latter (Both pair (One 92) (One 117)) UnitText))

pair_set : (c : ℕ) (cs : List ℕ) → PairText c cs → IsSurrogatePair cs
unfolding MadeText Both Spelled
pair_set c cs (
  p,
  (
    u,
    v,
    xs,
    ys,
    x,
    (
      w,
      v2,
      ms,
      zs,
      (s, l, ss, ls, (es, fs), (el, fl), em, om),
      z,
      ey,
      oy,
    ),
    ex,
    ox,
  ),
  are,
) =
    let high : p.0 ≡ u = ap (λ (q : ℕ × ℕ). q.0) ox in
    let low : p.1 ≡ v2 = ap (λ (q : ℕ × ℕ). q.1) ox ∙ oy in
    then_of_parts xs ys
    (unit_set high_surrogate_ranges xs u (omega (arith, are, high), omega (arith, are, high)) x)
    (then_of_parts ss (ls ++ zs) (one_byte_text refl fs)
    (then_of_parts ls zs (one_byte_text refl fl)
    (unit_set low_surrogate_ranges zs v2 (omega (arith, are, low), omega (arith, are, low)) z) refl)
    (ey ∙ ap (λ l. l ++ zs) em ∙ append_assoc ss ls zs)) ex

pub pair_text : (c u v : ℕ) (xs ys cs : List ℕ) → UnitText u xs → UnitText v ys
    → cs ≡ xs ++ 92 ∷ 117 ∷ ys → IsHighSurrogate u → IsLowSurrogate v
    → c ≡ 65536 + (u - 55296) * 1024 + (v - 56320) → PairText c cs
unfolding MadeText Both Spelled
pair_text c u v xs ys cs x y e high low same = (
  (u, v),
  (
    u,
    v,
    xs,
    92 ∷ 117 ∷ ys,
    x,
    (
      (92, 117),
      v,
      92 ∷ 117 ∷ [],
      ys,
      (92, 117, 92 ∷ [], 117 ∷ [], (refl, refl), (refl, refl), refl, refl),
      y,
      refl,
      refl,
    ),
    e,
    refl,
  ),
  (high.0, high.1, low.0, low.1, same),
)

pub pair_joins : (cs : List ℕ) → (is : IsSurrogatePair cs)
    → cs ≡ is.first ++ 92 ∷ 117 ∷ is.is_second.is_second.second
pair_joins cs is =
    is.joins ∙ ap (λ l. is.first ++ l) (given_byte_then_is_cons 92 is.is_second
    ∙ ap (λ l. 92 ∷ l) (given_byte_then_is_cons 117 is.is_second.is_second))

pair_value : (cs : List ℕ) → IsSurrogatePair cs → Means PairText cs
pair_value cs is =
    let letter = is.is_second.is_second in
    let (u, x, high) = unit_value high_surrogate_ranges is.first is.is_first in
    let (v, y, low) = unit_value low_surrogate_ranges letter.second letter.is_second in
    let c = 65536 + (u - 55296) * 1024 + (v - 56320) in
    means_long PairText cs c
    (pair_text c u v is.first letter.second cs x y (pair_joins cs is) high low refl)
    (high_scalar c (omega (arith, high)) (omega (arith, high, low)))
    (omega (
      arith,
      unit_size is.first is.is_first,
      ap (λ l. length l) is.joins,
      length-append is.first is.second,
    ))

means_to : (text other : Text ℕ ℕ) (cs : List ℕ) → ((c : ℕ) → text c cs → other c cs)
    → Means text cs → Means other cs
means_to text other cs to m = record {
  char = m.char;
  written = to m.char m.written;
  scalar = m.scalar;
  size = m.size;
}

character_set : (c : ℕ) (cs : List ℕ) → UnicodeText c cs → IsCharacterCode cs
unfolding EitherText
character_set c cs (inl x) = inl (only_set c cs x)
character_set c cs (inr x) = inr (pair_set c cs x)

character_value : (cs : List ℕ) → IsCharacterCode cs → Means UnicodeText cs
unfolding EitherText
character_value cs (inl is) =
    means_to (For IsAlone UnitText) UnicodeText cs (λ c x. inl x) (only_value cs is)
character_value cs (inr is) =
    means_to PairText UnicodeText cs (λ c x. inr x) (pair_value cs is)

stands_for : (b : ℕ) → IsEscaped b → (k : ℕ) × StandsFor b k × (k < 128)
stands_for b (inl e) = (34, inl (e, refl), omega arith)
stands_for b (inr (inl e)) = (92, inr (inl (e, refl)), omega arith)
stands_for b (inr (inr (inl e))) = (47, inr (inr (inl (e, refl))), omega arith)
stands_for b (inr (inr (inr (inl e)))) = (8, grind (arith, e), omega arith)
stands_for b (inr (inr (inr (inr (inl e))))) = (12, grind (arith, e), omega arith)
stands_for b (inr (inr (inr (inr (inr (inl e)))))) = (10, grind (arith, e), omega arith)
stands_for b (inr (inr (inr (inr (inr (inr (inl e))))))) = (13, grind (arith, e), omega arith)
stands_for b (inr (inr (inr (inr (inr (inr (inr e))))))) = (9, grind (arith, e), omega arith)

is_escaped : (b k : ℕ) → StandsFor b k → IsEscaped b
is_escaped b k stands = grind (arith, stands)

abbrev pub EscapedText : Text ℕ ℕ
EscapedText = EitherText (For StandsFor Whichever) (Both latter (One 117) UnicodeText)

pub escape_set : (c : ℕ) (cs : List ℕ) → EscapedText c cs → IsEscape cs
unfolding EitherText MadeText Whichever Both Spelled
escape_set c cs (inl (b, e, is)) = inl (one_byte_text (is_escaped b c is) e)
escape_set c cs (inr (u, d, xs, ys, (eu, fu), x, e, out)) =
    inr (then_of_parts xs ys (one_byte_text refl fu) (character_set d ys x) e)

pub escape_value : (cs : List ℕ) → IsEscape cs → Means EscapedText cs
unfolding EitherText MadeText Whichever Both Spelled
escape_value cs (inl is) =
    let (k, stands, small) = stands_for is.byte is.is_byte in
    record {
      char = k;
      written = inl (is.byte, is.alone, stands);
      scalar = low_scalar k (omega (arith, small));
      size = omega (
        arith,
        length-encode k,
        len_utf8_ascii k small,
        ap (λ l. length l) is.alone,
      );
    }
escape_value cs (inr is) =
    let m = character_value is.second is.is_second in
    let letter = is.is_first in
    record {
      char = m.char;
      written = inr (
        117,
        m.char,
        is.first,
        is.second,
        (refl, letter.alone ∙ ap (λ b. b ∷ []) letter.is_byte),
        m.written,
        is.joins,
        refl,
      );
      scalar = m.scalar;
      size = omega (
        arith,
        m.size,
        ap (λ l. length l) is.joins,
        length-append is.first is.second,
      );
    }
