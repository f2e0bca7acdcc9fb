-- Literals that are compared without regard to ASCII case.
use Rattle.std.specs.Prelude.{◌≡◌, ℕ, suc, ◌+◌, ◌/◌, ◌%◌, ◌<◌, ◌≤◌, List, [], ◌∷◌, ◌++◌}
use Rattle.std.specs.Prelude.{length}
use Rattle.std.specs.Prelude.{map, take, drop}
use Rattle.std.specs.Char.{encode_utf8, to_ascii_lowercase}
use Rattle.std.specs.Str.{chars, encode_utf8_all, IsUtf8}
use Rattle.std.proofs.Common.{refl, sym, ap, ◌∙◌, arith, inl, inr, ◌⊎◌}
use Rattle.std.proofs.lemmas.Bool.{cases_lt, lt-ltb, le-ltb}
use Rattle.std.proofs.lemmas.Str.{chars-nil, encode_ascii, encodes-append, encodes-chars}
use Rattle.std.proofs.lemmas.List.{append-nil, length-append, take-append-drop}
use Rattle.streams.specs.Equal.{same_first, same_others}
use Rattle.streams.specs.Text.{length_encodes, width, width_chars, width_positive}
use Rattle.streams.specs.Utf8.{chars_spelled, two_bytes, three_bytes, four_bytes}
use Rattle.stream_searches.specs.Compare.{ComparesAs, StartsWithSpelling, IsShort}
use Rattle.stream_searches.specs.declared.compare.CompareResult.{CompareResult}
use Rattle.stream_searches.specs.declared.compare.CompareResult.TheVariants.{Ok, Incomplete, Error}

-- the same with its ASCII letters in lower case
abbrev pub lower_case : List ℕ → List ℕ
lower_case xs = map to_ascii_lowercase xs

-- `IsCaseless literal xs`: the lists are equal except for the case of ASCII letters.
abbrev pub IsCaseless : List ℕ → List ℕ → Type 0
IsCaseless literal xs = lower_case xs ≡ lower_case literal

-- what is past the capital letters stays
stays : (c : ℕ) → 91 ≤ c → to_ascii_lowercase c ≡ c
stays c h = rw (le-ltb c 65 (omega (arith, h)), le-ltb c 91 h)

lower_below : (c : ℕ) → c < 128 → to_ascii_lowercase c < 128
lower_below c h = by (cases_lt c 65) (cases_lt c 91)
  where
    by : (c < 65) ⊎ (65 ≤ c) → (c < 91) ⊎ (91 ≤ c) → to_ascii_lowercase c < 128
    by (inl small) _ = rw (lt-ltb c 65 small) h
    by (inr l) (inl letter) = rw (le-ltb c 65 l, lt-ltb c 91 letter) (omega (arith, letter))
    by (inr l) (inr past) = rw (le-ltb c 65 l, le-ltb c 91 past) h

pub lower_case-append : (xs ys : List ℕ) → lower_case (xs ++ ys) ≡ lower_case xs ++ lower_case ys
lower_case-append [] ys = refl
lower_case-append (x ∷ xs) ys = ap (λ l. to_ascii_lowercase x ∷ l) (lower_case-append xs ys)

pub lower_case-length : (xs : List ℕ) → length (lower_case xs) ≡ length xs
lower_case-length [] = refl
lower_case-length (x ∷ xs) = ap (λ n. suc n) (lower_case-length xs)

-- the bytes of a character in lower case are its bytes, in lower case
lower_case_encode : (c : ℕ) → lower_case (encode_utf8 c) ≡ encode_utf8 (to_ascii_lowercase c)
lower_case_encode c = by (cases_lt c 128) (cases_lt c 2048) (cases_lt c 65536)
  where
    same : 128 ≤ c → encode_utf8 c ≡ encode_utf8 (to_ascii_lowercase c)
    same l = ap encode_utf8 (sym (stays c (omega (arith, l))))

    by : (c < 128) ⊎ (128 ≤ c) → (c < 2048) ⊎ (2048 ≤ c) → (c < 65536) ⊎ (65536 ≤ c)
        → lower_case (encode_utf8 c) ≡ encode_utf8 (to_ascii_lowercase c)
    by (inl h) _ _ =
        ap lower_case (encode_ascii c h)
        ∙ sym (encode_ascii (to_ascii_lowercase c) (lower_below c h))
    by (inr l) (inl h) _ =
        ap lower_case (two_bytes c l h)
        ∙ ap (λ x. x ∷ to_ascii_lowercase (128 + c % 64) ∷ []) (stays (192 + c / 64) (omega arith))
        ∙ ap (λ x. (192 + c / 64) ∷ x ∷ []) (stays (128 + c % 64) (omega arith))
        ∙ sym (two_bytes c l h) ∙ same l
    by (inr m) (inr l) (inl h) =
        ap lower_case (three_bytes c l h)
        ∙ ap (λ x. x ∷ to_ascii_lowercase (128 + c / 64 % 64) ∷ to_ascii_lowercase
        (128 + c % 64) ∷ []) (stays (224 + c / 4096) (omega arith))
        ∙ ap (λ x. (224 + c / 4096) ∷ x ∷ to_ascii_lowercase (128 + c % 64) ∷ [])
        (stays (128 + c / 64 % 64) (omega arith))
        ∙ ap (λ x. (224 + c / 4096) ∷ (128 + c / 64 % 64) ∷ x ∷ [])
        (stays (128 + c % 64) (omega arith))
        ∙ sym (three_bytes c l h) ∙ same m
    by (inr m) (inr _) (inr l) =
        ap lower_case (four_bytes c l)
        ∙ ap (λ x. x ∷ to_ascii_lowercase (128 + c / 4096 % 64) ∷ to_ascii_lowercase
        (128 + c / 64 % 64) ∷ to_ascii_lowercase (128 + c % 64) ∷ [])
        (stays (240 + c / 262144) (omega arith))
        ∙ ap (λ x. (240 + c / 262144) ∷ x ∷ to_ascii_lowercase (128 + c / 64 % 64) ∷
        to_ascii_lowercase (128 + c % 64) ∷ [])
        (stays (128 + c / 4096 % 64) (omega arith))
        ∙ ap (λ x. (240 + c / 262144) ∷ (128 + c / 4096 % 64) ∷ x ∷ to_ascii_lowercase
        (128 + c % 64) ∷ []) (stays (128 + c / 64 % 64) (omega arith))
        ∙ ap (λ x. (240 + c / 262144) ∷ (128 + c / 4096 % 64) ∷ (128 + c / 64 % 64) ∷ x ∷ [])
        (stays (128 + c % 64) (omega arith))
        ∙ sym (four_bytes c l) ∙ same m

-- ... and so are those of characters
lower_case_encodes : (cs : List ℕ)
    → lower_case (encode_utf8_all cs) ≡ encode_utf8_all (lower_case cs)
lower_case_encodes [] = refl
lower_case_encodes (c ∷ cs) =
    lower_case-append (encode_utf8 c) (encode_utf8_all cs)
    ∙ ap (λ l. l ++ lower_case (encode_utf8_all cs)) (lower_case_encode c)
    ∙ ap (λ l. encode_utf8 (to_ascii_lowercase c) ++ l) (lower_case_encodes cs)

lower_case_width : (cs : List ℕ) → width (lower_case cs) ≡ width cs
lower_case_width cs =
    sym (length_encodes (lower_case cs)) ∙ ap (λ l. length l) (sym (lower_case_encodes cs))
    ∙ lower_case-length (encode_utf8_all cs) ∙ length_encodes cs

chars_lower_case : (text rest : List ℕ) → IsUtf8 text
    → chars (lower_case text ++ rest) ≡ lower_case (chars text) ++ chars rest
chars_lower_case text rest utf8 =
    ap (λ l. chars (lower_case l ++ rest)) (sym (encodes-chars text utf8))
    ∙ ap (λ l. chars (l ++ rest)) (lower_case_encodes (chars text))
    ∙ chars_spelled (lower_case (chars text)) rest

chars_lower_case_all : (text : List ℕ) → IsUtf8 text
    → chars (lower_case text) ≡ lower_case (chars text)
chars_lower_case_all text utf8 =
    ap chars (sym (append-nil (lower_case text))) ∙ chars_lower_case text [] utf8
    ∙ ap (λ l. lower_case (chars text) ++ l) chars-nil ∙ append-nil (lower_case (chars text))

-- as many members as the literal has are it, where those in lower case begin so
pub first_lower_case : (xs ys more : List ℕ) → lower_case xs ≡ lower_case ys ++ more
    → lower_case (take (length ys) xs) ≡ lower_case ys
first_lower_case xs [] more e = refl
first_lower_case [] (y ∷ ys) more e = absurd (cc)
first_lower_case (x ∷ xs) (y ∷ ys) more e =
    ap (λ c. c ∷ lower_case (take (length ys) xs)) (same_first e)
    ∙ ap (λ l. to_ascii_lowercase y ∷ l) (first_lower_case xs ys more (same_others e))

-- what is missing of the literal makes it whole
rest_lower_case : (xs ys more : List ℕ) → lower_case ys ≡ lower_case xs ++ more
    → lower_case (xs ++ drop (length xs) ys) ≡ lower_case ys
rest_lower_case [] ys more e = refl
rest_lower_case (x ∷ xs) [] more e = absurd (cc)
rest_lower_case (x ∷ xs) (y ∷ ys) more e =
    ap (λ c. c ∷ lower_case (xs ++ drop (length xs) ys)) (sym (same_first e))
    ∙ ap (λ l. to_ascii_lowercase y ∷ l) (rest_lower_case xs ys more (same_others e))

-- the bytes of characters are as many as those of the same in another case
equal_widths : (xs ys : List ℕ) → lower_case xs ≡ lower_case ys → width xs ≡ width ys
equal_widths xs ys e = sym (lower_case_width xs) ∙ ap width e ∙ lower_case_width ys

equal_lengths : (xs ys : List ℕ) → lower_case xs ≡ lower_case ys → length xs ≡ length ys
equal_lengths xs ys e = sym (lower_case-length xs) ∙ ap (λ l. length l) e ∙ lower_case-length ys

-- lists that are the literal but for case are of one length ...
pub same_lengths : (literal xs ys : List ℕ) → IsCaseless literal xs → IsCaseless literal ys
    → length xs ≡ length ys
same_lengths literal xs ys p q = equal_lengths xs ys (p ∙ sym q)

-- ... and of one width
pub same_widths : (literal xs ys : List ℕ) → IsCaseless literal xs → IsCaseless literal ys
    → width xs ≡ width ys
same_widths literal xs ys p q = equal_widths xs ys (p ∙ sym q)

module _ (all lit : List ℕ) (all_utf8 : IsUtf8 all) (lit_utf8 : IsUtf8 lit) where
  bytes_of_literal : (cs : List ℕ) → lower_case cs ≡ lower_case (chars lit)
      → lower_case (encode_utf8_all cs) ≡ lower_case lit
  bytes_of_literal cs e =
      lower_case_encodes cs ∙ ap encode_utf8_all e ∙ sym (lower_case_encodes (chars lit))
      ∙ ap lower_case (encodes-chars lit lit_utf8)

  bytes_first : StartsWithSpelling (IsCaseless (chars lit)) (chars all)
      → StartsWithSpelling (IsCaseless lit) all
  bytes_first (front, rest, same, split) = (
    encode_utf8_all front,
    encode_utf8_all rest,
    bytes_of_literal front same,
    sym (encodes-chars all all_utf8) ∙ ap encode_utf8_all split
        ∙ encodes-append front rest,
  )

  some_bytes : (bs : List ℕ) → lower_case (all ++ bs) ≡ lower_case lit → 0 < length bs
      → IsShort (IsCaseless lit) all
  some_bytes [] e h = absurd (omega (arith, h))
  some_bytes (b ∷ bs) e h = (b, bs, e)

  bytes_short : IsShort (IsCaseless (chars lit)) (chars all) → IsShort (IsCaseless lit) all
  bytes_short (c, cs, e) =
      let parts : all ++ encode_utf8_all (c ∷ cs) ≡ encode_utf8_all (chars all ++ c ∷ cs) =
      ap (λ l. l ++ encode_utf8_all (c ∷ cs)) (sym (encodes-chars all all_utf8))
      ∙ sym (encodes-append (chars all) (c ∷ cs)) in
      some_bytes (encode_utf8_all (c ∷ cs))
      (ap lower_case parts ∙ bytes_of_literal (chars all ++ c ∷ cs) e)
      (omega (arith, length_encodes (c ∷ cs), width_positive c cs))

  some_chars : (cs : List ℕ) → lower_case (chars all ++ cs) ≡ lower_case (chars lit)
      → length all < length lit → IsShort (IsCaseless (chars lit)) (chars all)
  some_chars [] e h =
      absurd (omega (
        arith,
        h,
        equal_widths (chars all ++ []) (chars lit) e,
        ap width (append-nil (chars all)),
        width_chars all all_utf8,
        width_chars lit lit_utf8,
      ))
  some_chars (c ∷ cs) e h = (c, cs, e)

  chars_short : IsShort (IsCaseless lit) all → IsShort (IsCaseless (chars lit)) (chars all)
  chars_short (x, more, e) =
      let parts : lower_case (chars lit) ≡ lower_case (chars all) ++ chars (lower_case (x ∷ more)) =
      sym (chars_lower_case_all lit lit_utf8)
      ∙ ap chars (sym e ∙ lower_case-append all (x ∷ more))
      ∙ chars_lower_case all (lower_case (x ∷ more)) all_utf8 in
      some_chars (drop (length (chars all)) (chars lit))
      (rest_lower_case (chars all) (chars lit) (chars (lower_case (x ∷ more))) parts)
      (omega (arith, equal_lengths (all ++ x ∷ more) lit e, length-append all (x ∷ more)))

  -- A comparison of the bytes of two texts is one of their characters.
  pub caseless_text : (result : CompareResult) → ComparesAs length (IsCaseless lit) all result
      → ComparesAs width (IsCaseless (chars lit)) (chars all) result
  caseless_text (Ok n) (front, rest, same, split, at) =
      let parts : lower_case (chars all) ≡ lower_case (chars lit) ++ chars (lower_case rest) =
      sym (chars_lower_case_all all all_utf8) ∙ ap (λ l. chars (lower_case l)) split
      ∙ ap chars (lower_case-append front rest)
      ∙ ap (λ l. chars (l ++ lower_case rest)) same
      ∙ chars_lower_case lit (lower_case rest) lit_utf8 in
      let k = length (chars lit) in
      let first = first_lower_case (chars all) (chars lit) (chars (lower_case rest)) parts in (
        take k (chars all),
        drop k (chars all),
        first,
        sym (take-append-drop k (chars all)),
        at ∙ equal_lengths front lit same ∙ sym (width_chars lit lit_utf8)
            ∙ sym (equal_widths (take k (chars all)) (chars lit) first),
      )
  caseless_text Incomplete (short, other) = (chars_short short, λ first. other (bytes_first first))
  caseless_text Error (long, other) =
      ((λ short. long (bytes_short short)), (λ first. other (bytes_first first)))
