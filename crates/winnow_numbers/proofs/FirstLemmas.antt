-- The numeral at the start of the bytes of one load.
use Rattle.std.proofs.Common.{◌≡◌, ◌∙◌, ◌+◌, ◌*◌, ◌-◌, ◌%◌, ◌<◌, ◌≤◌, ◌++◌, ◌∷◌}
use Rattle.std.proofs.Common.{◌⊎◌, ℕ, List, []}
use Rattle.std.proofs.Common.{Fits, ap, ap₂, arith, cond, drop, inl, inr, length, ltb, map, not}
use Rattle.std.proofs.Common.{append_assoc, refl, replicate, slice_index_or, subst, sym, take, w8}
use Rattle.std.proofs.lemmas.Bool.{cases_lt, le-ltb, lt-ltb}
use Rattle.std.proofs.lemmas.Bool.Decides.{nat_tests}
use Rattle.std.proofs.lemmas.List.{length-append, length-map, take-append-drop, take_at}
use Rattle.std.proofs.lemmas.Simd.{length-chunk, mask_l-mod, tops_compared, trailing_mask_l}
use Rattle.std.proofs.lemmas.Simd.{zip2_splat, zip2_splat_left}
use Rattle.std.specs.List.{AllByRecursion, prefix_len}
use Rattle.std.specs.Str.Parse.{digits_value_after}
use Rattle.std.specs.Char.{digit_value}
use Rattle.streams.specs.Equal.{same_first, same_others}
use Rattle.stream_sets.specs.AsChar.{IsDecDigit}
use Rattle.parser_definitions.specs.Digits.{value_in, value_is}
use Rattle.parser_definitions.specs.Numeral.{IsLeadingDigit}
use Rattle.winnow_numbers.specs.Lanes.{AreAtMost, StartsWithNumeral, EndsDigits, in_base}
use lib.Count.{count_trailing_zeros}
use lib.Lanes.{Each1, chunk, mask_l, top, zip2}

-- ---- where the digits end

-- the bits of the lanes that are above 9
pub others_are : (xs : List ℕ) → length xs ≡ 16
    → mask_l (map (top 7) (zip2 (λ a b. cond (ltb a b) 255 0) (replicate 16 9) xs))
    % 18446744073709551616 ≡ mask_l (map (ltb 9) xs)
others_are xs long =
    ap (λ l. mask_l l % 18446744073709551616)
    (tops_compared w8 ltb (replicate 16 9) xs ∙ zip2_splat_left ltb 9 16 xs long)
    ∙ mask_l-mod (map (ltb 9) xs) 64 (omega (arith, length-map xs (ltb 9), long))

one_more : (x : ℕ) (xs : List ℕ) (count : ℕ) → x ≤ 9 → EndsDigits xs count
    → EndsDigits (x ∷ xs) (1 + count)
one_more x xs count most (front, other, rest, e, long, all, above) = (
  x ∷ front,
  other,
  rest,
  ap (λ l. x ∷ l) e,
  omega (arith, long),
  (most, all),
  above,
)

ends_at : (xs : List ℕ) → 0 < mask_l (map (ltb 9) xs)
    → EndsDigits xs (prefix_len (λ x. not (ltb 9 x)) xs)
ends_at [] some = absurd (omega (arith, some))
ends_at (x ∷ xs) some = by (cases_lt 9 x) (λ more. ends_at xs more)
  where
    by : (9 < x) ⊎ (x ≤ 9)
        → (0 < mask_l (map (ltb 9) xs) → EndsDigits xs (prefix_len (λ y. not (ltb 9 y)) xs))
        → EndsDigits (x ∷ xs) (prefix_len (λ y. not (ltb 9 y)) (x ∷ xs))
    by (inl above) ends =
        let more = prefix_len (λ y. not (ltb 9 y)) xs in
        let none : prefix_len (λ y. not (ltb 9 y)) (x ∷ xs) ≡ 0 =
        ap {B = ℕ} (λ b. cond (not b) (1 + more) 0) (lt-ltb 9 x above) in
        ([], x, xs, refl, sym none, tt, above)
    by (inr most) ends =
        let is = le-ltb 9 x most in
        let more = prefix_len (λ y. not (ltb 9 y)) xs in
        let one : prefix_len (λ y. not (ltb 9 y)) (x ∷ xs) ≡ 1 + more =
        ap {B = ℕ} (λ b. cond (not b) (1 + more) 0) is in
        subst (EndsDigits (x ∷ xs)) (sym one)
        (one_more x xs more most (ends (omega (arith, some, ap {B = ℕ} (λ b. cond b 1 0) is))))

pub ends_digits : (xs : List ℕ) (others : ℕ) → length xs ≡ 16 → others ≡ mask_l (map (ltb 9) xs)
    → (others ≡ 0 → ⊥) → EndsDigits xs (count_trailing_zeros 64 others)
ends_digits xs others long are some =
    let positive : 0 < mask_l (map (ltb 9) xs) = omega (arith, are, some) in
    subst (EndsDigits xs) (sym (ap (count_trailing_zeros 64) are
    ∙ trailing_mask_l (ltb 9) 64 xs (omega (arith, long)) positive)) (ends_at xs positive)

-- ---- the first digits

pub front_of : (xs : List ℕ) (count : ℕ) → EndsDigits xs count
    → AreAtMost 9 (take count xs) × (count < length xs)
front_of xs count (front, other, rest, e, long, all, above) =
    let same : take count xs ≡ front =
    ap (take count) e ∙ take_at front (other ∷ rest) count long in
    let more : length xs ≡ length front + length (other ∷ rest) =
    ap length e ∙ length-append front (other ∷ rest) in
    (subst (AreAtMost 9) (sym same) all, omega (arith, more, long))

-- a byte less '0'
abbrev less : ℕ → ℕ
less b = (b + 208) % 256

-- The bytes are digits, and then another: their values are those lanes.
record Splits (bytes front : List ℕ) : Type 0 where
  digits : List ℕ
  last : ℕ
  more : List ℕ
  are : bytes ≡ digits ++ last ∷ more
  values : front ≡ map less digits
  members : AllByRecursion IsDecDigit digits
  ends : IsDecDigit last → ⊥

splits : (bytes front : List ℕ) (other : ℕ) (rest : List ℕ) → Each1 (Fits w8) bytes
    → map less bytes ≡ front ++ other ∷ rest → AreAtMost 9 front → 9 < other
    → Splits bytes front
splits [] [] other rest fits e all above = absurd cc
splits [] (x ∷ front) other rest fits e all above = absurd cc
splits (b ∷ bytes) [] other rest fits e all above =
    let first : less b ≡ other = same_first e in
    record {
      digits = [];
      last = b;
      more = bytes;
      are = refl;
      values = refl;
      members = tt;
      ends = λ is. absurd (omega (arith, is.0, is.1, first, above));
    }
splits (b ∷ bytes) (x ∷ front) other rest fits e all above =
    let first : less b ≡ x = same_first e in
    let below : b < 256 = fits.0.fits in
    let found = splits bytes front other rest fits.1 (same_others e) all.1 above in
    record {
      digits = b ∷ found.digits;
      last = found.last;
      more = found.more;
      are = ap (λ l. b ∷ l) found.are;
      values = ap₂ (λ y l. y ∷ l) (sym first) found.values;
      members = (
        (omega (arith, first, below, all.0), omega (arith, first, below, all.0)),
        found.members,
      );
      ends = found.ends;
    }

value_of : (d : ℕ) → IsDecDigit d → less d ≡ digit_value d
value_of d is = grind (arith, nat_tests)

-- the number of their values is that which std reads
number_of : (n : ℕ) (digits : List ℕ) → AllByRecursion IsDecDigit digits
    → in_base 10 n (map less digits) ≡ digits_value_after 10 n digits
number_of n [] all = refl
number_of n (d ∷ digits) all =
    ap (λ v. in_base 10 (n * 10 + v) (map less digits)) (value_of d all.0)
    ∙ number_of (n * 10 + digit_value d) digits all.1

begins : (bytes digits : List ℕ) (last : ℕ) (more : List ℕ)
    → take 16 bytes ≡ digits ++ last ∷ more → AllByRecursion IsDecDigit digits
    → (IsDecDigit last → ⊥) → (slice_index_or bytes 0 0 ≡ 48 → ⊥) → (length digits ≡ 0 → ⊥)
    → (behind : List ℕ) × StartsWithNumeral bytes digits behind
begins bytes [] last more are members ends other some = absurd (some refl)
begins bytes (d ∷ digits) last more are members ends other some =
    let whole : bytes ≡ (d ∷ digits) ++ ((last ∷ more) ++ drop 16 bytes) =
    sym (take-append-drop 16 bytes) ∙ ap (λ l. l ++ drop 16 bytes) are
    ∙ append_assoc (d ∷ digits) (last ∷ more) (drop 16 bytes) in
    let first : slice_index_or bytes 0 0 ≡ d = ap (λ l. slice_index_or l 0 0) whole in
    let above : d ≡ 48 → ⊥ = λ e. other (first ∙ e) in
    let leads : IsLeadingDigit d = (omega (arith, members.0.0, above), members.0.1) in (
      (last ∷ more) ++ drop 16 bytes,
      (whole, inr (d, digits, last, more ++ drop 16 bytes, refl, leads, members.1, refl, ends)),
    )

-- what is found of a numeral
abbrev pub Found : List ℕ → ℕ → ℕ → Type 0
Found bytes count number =
    (digits rest : List ℕ) × StartsWithNumeral bytes digits rest × (count ≡ length digits)
    × (number ≡ value_in 10 digits)

-- a lone '0'
pub zero_found : (bytes : List ℕ) → 16 ≤ length bytes → slice_index_or bytes 0 0 ≡ 48
    → Found bytes 1 0
zero_found [] long is = absurd (omega (arith, long))
zero_found (b ∷ bytes) long is =
    (48 ∷ [], bytes, (ap (λ c. c ∷ bytes) is, inl refl), refl, refl)

-- a digit from 1 to 9 and those after it
pub found : (bytes lanes : List ℕ) (count number : ℕ) → Each1 (Fits w8) (take 16 bytes)
    → lanes ≡ map less (take 16 bytes) → (slice_index_or bytes 0 0 ≡ 48 → ⊥)
    → EndsDigits lanes count → (count ≡ 0 → ⊥) → number ≡ in_base 10 0 (take count lanes)
    → Found bytes count number
found bytes lanes count number fits are other (front, last, rest, e, long, all, above) some is =
    let s = splits (take 16 bytes) front last rest fits (sym are ∙ e) all above in
    let same : length s.digits ≡ count =
    sym (length-map s.digits less) ∙ sym (ap length s.values) ∙ long in
    let first = begins bytes s.digits s.last s.more s.are s.members s.ends other
    (λ none. some (sym same ∙ none)) in
    let front_is : take count lanes ≡ map less s.digits =
    ap (take count) e ∙ take_at front (last ∷ rest) count long ∙ s.values in (
      s.digits,
      first.0,
      first.1,
      sym same,
      is ∙ ap (in_base 10 0) front_is ∙ number_of 0 s.digits s.members ∙ value_is 10 s.digits,
    )

-- the lanes of the first sixteen bytes, less '0'
pub lanes_are : (bytes : List ℕ) → 16 ≤ length bytes
    → zip2 (λ a b. (a + (256 - b)) % 256) (chunk 0 16 bytes) (replicate 16 48)
    ≡ map less (take 16 bytes)
lanes_are bytes long =
    zip2_splat (λ a b. (a + (256 - b)) % 256) (chunk 0 16 bytes) 16 48
    (length-chunk 0 16 bytes (omega (arith, long)))
