-- Proofs that the bytes pushed for characters are their encoding.
use Rattle.std.specs.Prelude.{◌≡◌, ◌≤◌, ◌<◌, ◌+◌, ◌*◌, ◌/◌, ◌%◌, ℕ, List, [], ◌∷◌}
use Rattle.std.specs.Prelude.{◌++◌, length}
use Rattle.std.specs.Prelude.{Result, Ok, Err, OnOk, is_ok, if◌then◌else◌, string_bytes}
use Rattle.std.specs.Char.{encode_utf8}
use Rattle.std.specs.Str.{IsUtf8, chars}
use Rattle.std.specs.declared.string.String.{String}
use Rattle.std.proofs.Common.{refl, sym, ap, subst, inl, inr, ◌∙◌, arith, append_assoc}
use Rattle.std.proofs.lemmas.Bool.{cases_lt}
use Rattle.std.proofs.lemmas.List.{append-nil, nil_from_length}
use Rattle.std.proofs.lemmas.Str.{chars-nil, chars_past_char, encodes-chars}
use Rattle.format_json_texts.specs.Strings.{IsUnescaped, StringText}
use Rattle.format_parts.specs.Words.{In, Whichever, former, latter}
use Rattle.format_json_writer.specs.Added.{Appends}
use Rattle.format_json_writer.proofs.Adding.{adds_more, adds_none, adds_then, one_added}
use Rattle.format_json_writer.specs.Strings.{CanonicalCharacter, CanonicalString, Escapes}
use Rattle.format_json_writer.specs.Strings.{IsLowercaseHexDigit, LowercaseUnit}
use Rattle.format_json_writer.proofs.Canonical.{string_canonical}
use Rattle.stream_sets.specs.Accumulator.Holds.{HasCharacters}
use Rattle.grammars.specs.Texts.{BothText, EachText, EitherText, MadeText, Spelled}

-- ---- what is written

plain_written : (c : ℕ) → IsUnescaped c → CanonicalCharacter c (c ∷ [])
unfolding EitherText In
plain_written c is = inl (is, refl)

escape_written : (c k : ℕ) → Escapes k c → CanonicalCharacter c (92 ∷ k ∷ [])
unfolding EitherText BothText Spelled MadeText Whichever
escape_written c k is = inr (
  92,
  c,
  92 ∷ [],
  k ∷ [],
  (refl, refl),
  inl (k, refl, is),
  refl,
  refl,
)

digits_written : (u a b c d p q r s : ℕ) → IsLowercaseHexDigit a p → IsLowercaseHexDigit b q
    → IsLowercaseHexDigit c r
    → IsLowercaseHexDigit d s → u ≡ p * 4096 + q * 256 + r * 16 + s
    → LowercaseUnit u (a ∷ b ∷ c ∷ d ∷ [])
unfolding BothText MadeText Whichever
digits_written u a b c d p q r s x y z w e = (
  (p, q, r, s),
  (
    p,
    (q, (r, s)),
    a ∷ [],
    b ∷ c ∷ d ∷ [],
    (a, refl, x),
    (
      q,
      (r, s),
      b ∷ [],
      c ∷ d ∷ [],
      (b, refl, y),
      (r, s, c ∷ [], d ∷ [], (c, refl, z), (d, refl, w), refl, refl),
      refl,
      refl,
    ),
    refl,
    refl,
  ),
  e,
)

number_written : (c h l : ℕ) → c < 32 → ((k : ℕ) → Escapes k c → ⊥) → IsLowercaseHexDigit h (c / 16)
    → IsLowercaseHexDigit l (c % 16) → CanonicalCharacter c (92 ∷ 117 ∷ 48 ∷ 48 ∷ h ∷ l ∷ [])
unfolding EitherText BothText Spelled MadeText
number_written c h l low none high least =
    let zero_digit : IsLowercaseHexDigit 48 0 = inl (omega arith) in
    let unit = digits_written c 48 48 h l 0 0 (c / 16) (c % 16) zero_digit zero_digit high least
    (omega arith) in
    inr (
      92,
      c,
      92 ∷ [],
      117 ∷ 48 ∷ 48 ∷ h ∷ l ∷ [],
      (refl, refl),
      inr (
        117,
        c,
        117 ∷ [],
        48 ∷ 48 ∷ h ∷ l ∷ [],
        (refl, refl),
        (c, unit, (refl, low, none)),
        refl,
        refl,
      ),
      refl,
      refl,
    )

-- ---- what is pushed

pub where_ok : {T E : Type 0} (xs ys zs : List ℕ) (result : Result T E)
    → zs ≡ (if is_ok result then xs else ys) → OnOk result (zs ≡ xs)
where_ok xs ys zs (Ok x) e = e
where_ok xs ys zs (Err x) e = tt

pub plain_pushed : {before after : List ℕ} (c : ℕ) → 32 ≤ c → c ≤ 1114111
    → ((k : ℕ) → Escapes k c → ⊥) → after ≡ before ++ encode_utf8 c
    → Appends CanonicalCharacter c before after
plain_pushed {before} c low high none e = record {
  tokens = c ∷ [];
  is = plain_written c (unescaped c low high none);
  behind = e ∙ ap (λ l. before ++ l) (sym (append-nil (encode_utf8 c)));
}
  where
    unescaped : (c : ℕ) → 32 ≤ c → c ≤ 1114111 → ((k : ℕ) → Escapes k c → ⊥) → IsUnescaped c
    unescaped c low high none =
        let quote : c ≡ 34 → ⊥ = λ e. none 34 (inl (refl, e), λ x. absurd (omega (arith, x))) in
        let backslash : c ≡ 92 → ⊥ = λ e.
        none 92 (inr (inl (refl, e)), λ x. absurd (omega (arith, x))) in
        elim (cases_lt c 34) [
          | inl below ↦ inl (omega (arith, low, below))
          | inr above ↦ elim (cases_lt c 92) [
            | inl less ↦ inr (inl (omega (arith, above, less, quote)))
            | inr more ↦ inr (inr (omega (arith, more, high, backslash)))
          ]
        ]

pub escape_pushed : {before between after : List ℕ} (c k : ℕ) → Escapes k c
    → between ≡ before ++ encode_utf8 92 → after ≡ between ++ encode_utf8 k
    → Appends CanonicalCharacter c before after
escape_pushed {before} c k is e f = record {
  tokens = 92 ∷ k ∷ [];
  is = escape_written c k is;
  behind = f ∙ ap (λ l. l ++ encode_utf8 k) e ∙ append_assoc before (encode_utf8 92) (encode_utf8 k)
      ∙ ap (λ l. before ++ (encode_utf8 92 ++ l)) (sym (append-nil (encode_utf8 k)));
}

pub number_pushed : {before first second after : List ℕ} (c h l : ℕ) → c < 32
    → ((k : ℕ) → Escapes k c → ⊥) → IsLowercaseHexDigit h (c / 16) → IsLowercaseHexDigit l (c % 16)
    → first ≡ before ++ (92 ∷ 117 ∷ 48 ∷ 48 ∷ []) → second ≡ first ++ encode_utf8 h
    → after ≡ second ++ encode_utf8 l → Appends CanonicalCharacter c before after
unfolding encode_utf8
number_pushed {before} {first} {second} c h l low none high least d e f = record {
  tokens = 92 ∷ 117 ∷ 48 ∷ 48 ∷ h ∷ l ∷ [];
  is = number_written c h l low none high least;
  behind = f ∙ ap (λ x. x ++ encode_utf8 l) e ∙ append_assoc first (encode_utf8 h) (encode_utf8 l)
      ∙ ap (λ x. x ++ (encode_utf8 h ++ encode_utf8 l)) d
      ∙ append_assoc before (92 ∷ 117 ∷ 48 ∷ 48 ∷ []) (encode_utf8 h ++ encode_utf8 l)
      ∙ ap (λ x. before ++ (92 ∷ 117 ∷ 48 ∷ 48 ∷ (encode_utf8 h ++ x)))
      (sym (append-nil (encode_utf8 l)));
}

-- quotes round characters
pub string_pushed : {cs before first second after : List ℕ} → first ≡ before ++ encode_utf8 34
    → Appends (EachText CanonicalCharacter) cs first second → after ≡ second ++ encode_utf8 34
    → Appends CanonicalString cs before after
string_pushed opening added closing =
    adds_then latter (one_added 34 opening) (adds_then former added (one_added 34 closing))

pub string_added : {A : Type 0} {text before after : List ℕ} → IsUtf8 text
    → Appends CanonicalString (chars text) before after → (string : String A)
    → string_bytes string ≡ text → Appends (StringText HasCharacters) string before after
string_added {text = text} utf8 added string same = record {
  tokens = added.tokens;
  is = string_canonical string (chars text) added.tokens (same ∙ sym (encodes-chars text utf8))
      added.is;
  behind = added.behind;
}

pub none_left : (text bytes : List ℕ) → length text ≡ 0
    → Appends (EachText CanonicalCharacter) (chars text) bytes bytes
none_left text bytes none =
    let P : List ℕ → Type 0 = λ cs. Appends (EachText CanonicalCharacter) cs bytes bytes in
    subst P (sym (ap (λ l. chars l) (nil_from_length text none) ∙ chars-nil))
    (adds_none CanonicalCharacter bytes)

-- one more character is first
pub one_more : {before between after : List ℕ} (text rest : List ℕ) (c : ℕ) → IsUtf8 text
    → text ≡ encode_utf8 c ++ rest → Appends CanonicalCharacter c before between
    → Appends (EachText CanonicalCharacter) (chars rest) between after
    → Appends (EachText CanonicalCharacter) (chars text) before after
one_more {before} {between} {after} text rest c utf8 parts one more =
    let P : List ℕ → Type 0 = λ cs. Appends (EachText CanonicalCharacter) cs before after in
    subst P (sym (chars_past_char text rest c utf8 parts)) (adds_more one more)
