-- Strings are the encodings of those that hold some characters.
use Rattle.std.proofs.Common.{◌++◌, ◌<◌, ◌^◌, ◌∙◌, ◌∷◌, ◌≡◌, ◌≤◌, ◌⊎◌, [], ℕ, List}
use Rattle.std.proofs.Common.{ap, append_assoc, arith, inl, inr, length, length-append, refl, subst}
use Rattle.std.proofs.Common.{suc, sym, true, zero}
use Rattle.std.proofs.Math.Utf8.{scalar_cases}
use Rattle.std.proofs.StringFromBytes.{spelled}
use Rattle.std.specs.Char.{IsScalar, encode_utf8}
use Rattle.std.specs.List.{All}
use Rattle.std.specs.Str.{all_scalars, encode_utf8_all}
use Rattle.std.proofs.lemmas.Bool.{cases_lt}
use Rattle.std.proofs.lemmas.List.Elements.{All-cons, All-head, All-nil, All-tail, All-weaker}
use Rattle.std.proofs.lemmas.Str.{encodes-append, length-le-encodes}
use Rattle.format_json_extents.proofs.Characters.{IsAscii, Spelling, and_true, ascii_prefix}
use Rattle.format_json_extents.proofs.Characters.{both_true, byte_in, either_in, first_byte}
use Rattle.format_json_extents.proofs.Characters.{first_char, in_utf8, low_on, then_in, two_in}
use Rattle.format_json_extents.proofs.Matching.{first_byte_of_match, given_byte_then_is_cons}
use Rattle.format_json_extents.proofs.Matching.{heads_equal, one_byte_text, tails_equal}
use Rattle.format_json_extents.proofs.Matching.{then_of_parts}
use Rattle.format_json_extents.proofs.Scalars.{piece_starts, tail_run, tail_split}
use Rattle.format_json_extents.proofs.Written.{Written, encoded, fit_parts, one_written}
use Rattle.format_json_extents.proofs.Written.{scalars_parts, then_written}
use Rattle.format_json_extents.proofs.Written.Escapes.{escape_set, escape_value}
use Rattle.format_json_extents.proofs.Written.Units.{Ranges, high_surrogate_ranges}
use Rattle.format_json_extents.proofs.Written.Units.{low_surrogate_ranges, non_surrogate_ranges}
use Rattle.format_json_extents.specs.Strings.{IsBackslash, IsCodeUnit, IsEscape, IsEscaped}
use Rattle.format_json_extents.specs.Strings.{IsHexDigit, IsLetterU, IsPiece, IsString}
use Rattle.format_json_extents.specs.Strings.{IsStringTail, IsUnescaped}
use Rattle.format_json_extents.specs.Texts.{IsByte, Many, MatchesAtStart, Then, nothing, one_more}
use Rattle.format_json_texts.specs.Strings.{CharacterText, IsUnescaped as IsPlain, StringText}
use Rattle.format_parts.specs.Words.{In, One, former, latter}
use Rattle.stream_sets.specs.Accumulator.Holds.{HasCharacters}
use Rattle.grammars.specs.Texts.{BothText as Both, EachText, EitherText, GatheredText, Spelled}

-- ---- escapes

hex_low : (b : ℕ) → IsHexDigit b → b < 128
hex_low b is = grind (arith, is)

unit_low : {P : ℕ → ℕ → Type 0} {Q : ℕ → Type 0} → Ranges P Q → IsAscii (IsCodeUnit P)
unit_low {P} ranges =
    then_in (two_in P (λ a b is.
    let (one, two) = ranges.hex a b is in (hex_low a one, hex_low b two)))
    (then_in (byte_in IsHexDigit hex_low) (byte_in IsHexDigit hex_low))

slash_low : IsAscii (IsByte IsBackslash)
slash_low = byte_in IsBackslash (λ b e. omega (arith, e))

letter_low : IsAscii (IsByte IsLetterU)
letter_low = byte_in IsLetterU (λ b e. omega (arith, e))

escape_low : IsAscii (Then (IsByte IsBackslash) IsEscape)
escape_low =
    then_in slash_low
    (either_in (byte_in IsEscaped (λ b is. grind (arith, is)))
    (then_in letter_low
    (either_in (unit_low non_surrogate_ranges)
    (then_in (unit_low high_surrogate_ranges)
    (then_in slash_low (then_in letter_low (unit_low low_surrogate_ranges)))))))

-- ---- characters that stand for themselves

unescaped_high : (b : ℕ) → 128 ≤ b → IsUnescaped b
unescaped_high b high =
    (omega (arith, high), λ e. omega (arith, high, e), λ e. omega (arith, high, e))

unescaped_on : (e : Spelling) (c : ℕ) → 128 ≤ c → All IsUnescaped (e.on (c ∷ []))
unescaped_on e c high =
    All-weaker (λ b. 128 ≤ b) IsUnescaped unescaped_high (e.on (c ∷ [])) (e.high c high)

plain_of : (b : ℕ) → IsUnescaped b → IsScalar b → IsPlain b
plain_of b is scalar = elim (scalar_cases b scalar) [
  | inl less ↦ grind (arith, is, less)
  | inr more ↦ grind (arith, is, more)
]

plain_is : (b : ℕ) → IsPlain b → IsUnescaped b
plain_is b is = (grind (arith, is), λ e. grind (arith, is, e), λ e. grind (arith, is, e))

-- ---- encodings are strings

many_run : (bytes more : List ℕ) → All IsUnescaped bytes → Many IsPiece more
    → Many IsPiece (bytes ++ more)
many_run [] more all many = many
many_run (b ∷ bytes) more all many =
    one_more (b ∷ []) (bytes ++ more) (b ∷ (bytes ++ more))
    (inl (one_byte_text (All-head IsUnescaped b bytes all) refl))
    (many_run bytes more (All-tail IsUnescaped b bytes all) many) refl

module _ (e : Spelling) where
  piece_set : (c : ℕ) (cs more : List ℕ) → CharacterText c cs → Many IsPiece more
      → Many IsPiece (e.on cs ++ more)
  unfolding EitherText Both Spelled In
  piece_set c cs more (inl (is, f)) many =
      let P : List ℕ → Type 0 = λ l. Many IsPiece (e.on l ++ more) in
      subst P (sym f) (many_run (e.on (c ∷ [])) more (by (cases_lt c 128)) many)
    where
      by : (c < 128) ⊎ (128 ≤ c) → All IsUnescaped (e.on (c ∷ []))
      by (inl low) =
          subst (All IsUnescaped) (sym (e.low c [] low ∙ ap (λ l. c ∷ l) e.nothing))
          (All-cons IsUnescaped c [] (plain_is c is) (All-nil IsUnescaped))
      by (inr high) = unescaped_on e c high
  piece_set c cs more (inr (s, d, xs, ys, (es, fs), x, f, out)) many =
      let is : Then (IsByte IsBackslash) IsEscape cs =
      then_of_parts xs ys (one_byte_text refl fs) (escape_set d ys x) f in
      one_more (e.on cs) more (e.on cs ++ more) (inr (subst (Then (IsByte IsBackslash) IsEscape)
      (sym (low_on e cs (escape_low.each cs is))) is)) many refl

  row_set : (os cs : List ℕ) → EachText CharacterText os cs → Many IsPiece (e.on cs)
  unfolding EachText
  row_set [] cs f = nothing (e.on cs) (ap e.on f ∙ e.nothing)
  row_set (o ∷ os) cs (xs, ys, x, more, f) =
      let P : List ℕ → Type 0 = λ l. Many IsPiece l in
      subst P (sym (ap e.on f ∙ e.joins xs ys))
      (piece_set o xs (e.on ys) x (row_set os ys more))

-- ---- strings are encodings

-- Characters that start with encodings of others and a quote, and the bytes after it. The others
-- take no more bytes.
record Row (cs rest : List ℕ) : Type 0 where
  os : List ℕ
  first : List ℕ
  second : List ℕ
  splits : cs ≡ first ++ 34 ∷ second
  rest_of : encode_utf8_all second ≡ rest
  written : EachText CharacterText os first
  scalars : all_scalars os ≡ true
  size : length (encode_utf8_all os) ≤ length (encode_utf8_all first)

row_more : (c : ℕ) (xs more cs rest : List ℕ) → CharacterText c xs → IsScalar c
    → length (encode_utf8 c) ≤ length (encode_utf8_all xs) → cs ≡ xs ++ more → Row more rest
    → Row cs rest
unfolding EachText
row_more c xs more cs rest x scalar less e r = record {
  os = c ∷ r.os;
  first = xs ++ r.first;
  second = r.second;
  splits = simp (e, r.splits, append_assoc);
  rest_of = r.rest_of;
  written = (xs, r.first, x, r.written, refl);
  scalars = and_true _ (all_scalars r.os) scalar r.scalars;
  size = omega (
    arith,
    less,
    r.size,
    length-append (encode_utf8 c) (encode_utf8_all r.os),
    ap (λ l. length l) (encodes-append xs r.first),
    length-append (encode_utf8_all xs) (encode_utf8_all r.first),
  );
}

-- the last quote
quoted : (cs rest : List ℕ) → encode_utf8_all cs ≡ 34 ∷ rest → Row cs rest
unfolding EachText
quoted cs rest e =
    let (es, f, g) = first_char cs rest 34 (omega arith) e in
    record {
      os = [];
      first = [];
      second = es;
      splits = f;
      rest_of = g;
      written = refl;
      scalars = refl;
      size = omega arith;
    }

-- what holds of fewer characters does of one more
abbrev Rows : ℕ → Type 0
Rows n =
    (cs rest : List ℕ) → length cs ≤ n → all_scalars cs ≡ true
    → MatchesAtStart IsStringTail (encode_utf8_all cs) rest → Row cs rest

module _ (n : ℕ) (rows : Rows n) (c : ℕ) (cs rest : List ℕ) (few : length cs ≤ n)
    (scalars : all_scalars (c ∷ cs) ≡ true) where
  ahead : MatchesAtStart IsStringTail (encode_utf8_all cs) rest → IsUnescaped c → Row (c ∷ cs) rest
  unfolding EitherText In
  ahead at is =
      let (scalar, more) = both_true _ (all_scalars cs) scalars in
      row_more c (c ∷ []) cs (c ∷ cs) rest (inl (plain_of c is scalar, refl)) scalar
      (omega (arith, length-append (encode_utf8 c) [])) refl (rows cs rest few more at)

  escaped : (at text : List ℕ) → c < 128 → IsPiece text
      → encode_utf8_all (c ∷ cs) ≡ text ++ at → MatchesAtStart IsStringTail at rest
      → Row (c ∷ cs) rest
  unfolding EitherText Both Spelled
  escaped at text small (inl is) e tail =
      let same = sym (first_byte c cs small) ∙ e ∙ ap (λ l. l ++ at) is.alone in
      let P : List ℕ → Type 0 = λ l. MatchesAtStart IsStringTail l rest in
      ahead (subst P (sym (tails_equal same)) tail)
      (subst IsUnescaped (sym (heads_equal same)) is.is_byte)
  escaped at text small (inr is) e tail =
      let (es, f, g) = ascii_prefix text (c ∷ cs) at (escape_low.each text is) e in
      let m = escape_value is.second is.is_second in
      let slash = is.is_first in
      let P : List ℕ → Type 0 = λ l. MatchesAtStart IsStringTail l rest in
      let Q : List ℕ → Type 0 = λ l. all_scalars l ≡ true in
      let size = ap (λ l. length l) (given_byte_then_is_cons 92 is) in
      row_more m.char text es (c ∷ cs) rest (inr (
        92,
        m.char,
        is.first,
        is.second,
        (refl, slash.alone ∙ ap (λ b. b ∷ []) slash.is_byte),
        m.written,
        is.joins,
        refl,
      )) m.scalar (omega (arith, m.size, size, length-le-encodes text)) f
      (rows es rest
      (omega (arith, few, size, ap (λ l. length l) f, length-append text es))
      (scalars_parts text es (subst Q f scalars)).1 (subst P (sym g) tail))

  row_one_more : MatchesAtStart IsStringTail (encode_utf8_all (c ∷ cs)) rest
      → (c < 128) ⊎ (128 ≤ c) → Row (c ∷ cs) rest
  row_one_more it (inl small) = elim (tail_split it) [
    | inl e ↦ quoted (c ∷ cs) rest e
    | inr (at, piece, others) ↦ escaped at piece.text small piece.is piece.splits others
  ]
  row_one_more it (inr high) =
      ahead ((tail_run (encode_utf8_all (c ∷ [])) {next = encode_utf8_all cs}
      (unescaped_on in_utf8 c high) (encodes-append (c ∷ []) cs)).on rest it)
      (unescaped_high c high)

row_value : (n : ℕ) → Rows n
row_value n [] rest few scalars it = elim (tail_split it) [
  | inl e ↦ quoted [] rest e
  | inr (at, piece, others) ↦
      let b = first_byte_of_match piece_starts piece in
      let none : [] ≡ b.byte ∷ b.more = b.begins in
      absurd (omega (arith, ap (λ l. length l) none))
]
row_value zero (c ∷ cs) rest few scalars it = absurd (omega (arith, few))
row_value (suc n) (c ∷ cs) rest few scalars it =
    row_one_more n (λ es more less are at. row_value n es more less are at) c cs rest
    (omega (arith, few)) scalars it (cases_lt c 128)

module _ {A : Type 0} where
  quote_written : Written A (IsByte (λ b. b ≡ 34)) (One 34)
  quote_written = one_written 34 (omega arith)

  tail_written : Written A IsStringTail
      (Both former (GatheredText (HasCharacters {A = A}) (EachText CharacterText)) (One 34))
  unfolding Both GatheredText Spelled
  tail_written = record {
    set = λ e o cs (string, q, xs, ys, (os, holds, x), y, f, out).
        then_of_parts (e.on xs) (e.on ys) (row_set e os xs x) (quote_written.set e q ys y)
        (ap e.on f ∙ e.joins xs ys);
    value = λ cs front rest fits is f.
        let r = row_value (length cs) cs rest (omega arith) fits.scalars
        (record { text = front; is = is; splits = f }) in
        let room = (fit_parts cs r.first (34 ∷ r.second) r.splits fits).0 in
        let few : length (encode_utf8_all r.os) < 2 ^ 63 = omega (arith, r.size, room.few) in
        let string = spelled fits.alloc (encode_utf8_all r.os) ∣ (r.os, (r.scalars, refl)) ∣₁ few in
        encoded (r.first ++ 34 ∷ []) r.second string
        (string, 34, r.first, 34 ∷ [], (r.os, refl, r.written), (refl, refl), refl, refl)
        (simp (r.splits, append_assoc)) r.rest_of;
  }

  pub string_written : Written A IsString (StringText (HasCharacters {A = A}))
  string_written = then_written latter quote_written tail_written
