-- Digits in the lanes of vectors: what joins neighbours, and what moves lanes.
use Rattle.std.proofs.Common.{◌≡◌, ◌∙◌, ◌+◌, ◌*◌, ◌-◌, ◌/◌, ◌%◌, ◌^◌, ◌<◌, ◌≤◌}
use Rattle.std.proofs.Common.{◌++◌, ◌∷◌, ℕ, List}
use Rattle.std.proofs.Common.{[]}
use Rattle.std.proofs.Common.{ap, ap₂, arith, length, map, refl, replicate, subst, suc, sym, zero}
use Rattle.std.proofs.Common.{◌⊎◌, cond, get_or, inl, inr, leb, slice_index_or, take, w8}
use Rattle.std.proofs.Math.Nat.{pow-suc, pow-zero}
use Rattle.std.proofs.lemmas.Bool.{cases_lt, cond-false, cond-true, le-leb, lt-leb}
use Rattle.std.proofs.lemmas.List.{ext_get_or, get_or-append_right, get_or-take}
use Rattle.std.proofs.lemmas.List.{get_or_append_left, length-append, length-take-le}
use Rattle.std.proofs.lemmas.List.FromFn.{get_or-map-range_with_len}
use Rattle.std.proofs.lemmas.Simd.{get_or-replicate, get_or-swz_l, length-replicate}
use Rattle.std.proofs.lemmas.Simd.{length-swz_l, swz_l}
use Rattle.std.specs.List.{range_with_len}
use Rattle.winnow_numbers.specs.Lanes.{AreAtMost, as_words, in_base, joined}
use lib.Lanes.{digits_l, number_l}

-- ---- lanes of double width

-- lanes as parts of one number, each two of which are a word
words_are : (size square most : ℕ)
    → ((x y n : ℕ) → x ≤ most → y ≤ most
    → ((x + size * (y + size * n)) % square ≡ x + size * y)
    × ((x + size * (y + size * n)) / square ≡ n))
    → (n : ℕ) (xs : List ℕ) → length xs ≡ n + n → AreAtMost most xs
    → digits_l square n (number_l size xs) ≡ as_words size xs
words_are size square most step zero [] long all = refl
words_are size square most step zero (x ∷ xs) long all = absurd (omega (arith, long))
words_are size square most step (suc n) [] long all = absurd (omega (arith, long))
words_are size square most step (suc n) (x ∷ []) long all = absurd (omega (arith, long))
words_are size square most step (suc n) (x ∷ y ∷ xs) long all =
    let at = step x y (number_l size xs) all.0 all.1.0 in
    let more = words_are size square most step n xs (omega (arith, long)) all.1.1 in
    ap₂ (λ a b. a ∷ b) at.0 (ap (digits_l square n) at.1 ∙ more)

-- a number is that of its bytes
bytes_of : (n x : ℕ) → x < 256 ^ n → number_l 256 (digits_l 256 n x) ≡ x
bytes_of zero x below = omega (arith, below)
bytes_of (suc n) x below =
    let power : 256 ^ suc n ≡ 256 ^ n * 256 = pow-suc 256 n in
    let more = bytes_of n (x / 256) (omega (arith, below, power)) in
    omega (arith, ap (λ y. 256 * y) more)

below_power : (size most : ℕ)
    → ((x n power : ℕ) → x ≤ most → n < power → x + size * n < power * size)
    → (xs : List ℕ) → AreAtMost most xs → number_l size xs < size ^ length xs
below_power size most step [] all =
    let power : size ^ length {A = ℕ} [] ≡ 1 = pow-zero size in
    omega (arith, power)
below_power size most step (x ∷ xs) all =
    let power : size ^ length (x ∷ xs) ≡ size ^ length xs * size = pow-suc size (length xs) in
    let below = step x (number_l size xs) (size ^ length xs) all.0
    (below_power size most step xs all.1) in
    omega (arith, below, power)

-- ---- two digits as one

-- what makes one digit of each word
joins : (size base most : ℕ) (f : ℕ → ℕ)
    → ((x y : ℕ) → x ≤ most → y ≤ most → f (x + size * y) ≡ x * base + y)
    → (xs : List ℕ) → AreAtMost most xs → map f (as_words size xs) ≡ joined base xs
joins size base most f one [] all = refl
joins size base most f one (x ∷ []) all = refl
joins size base most f one (x ∷ y ∷ xs) all =
    ap₂ (λ a b. a ∷ b) (one x y all.0 all.1.0) (joins size base most f one xs all.1.1)

pub pairs_are : (xs : List ℕ) → length xs ≡ 16 → AreAtMost 9 xs
    → map (λ w. w * 2561 % 65536 / 256) (digits_l 65536 8 (number_l 256 xs)) ≡ joined 10 xs
pairs_are xs long all =
    ap (map (λ w. w * 2561 % 65536 / 256)) (words_are 256 65536 9
    (λ x y n p q. (omega (arith, p, q), omega (arith, p, q))) 8 xs long all)
    ∙ joins 256 10 9 (λ w. w * 2561 % 65536 / 256) (λ x y p q. omega (arith, p, q)) xs all

pub fours_are : (xs : List ℕ) → length xs ≡ 8 → AreAtMost 99 xs
    → map (λ w. w * 6553601 % 4294967296 / 65536)
    (digits_l 4294967296 4 (number_l 256 (digits_l 256 16 (number_l 65536 xs)))) ≡ joined 100 xs
fours_are xs long all =
    let below : number_l 65536 xs < 65536 ^ 8 = subst (λ k. number_l 65536 xs < 65536 ^ k) long
    (below_power 65536 99 (λ x n power p q. omega (arith, p, q)) xs all) in
    ap (λ n. map (λ w. w * 6553601 % 4294967296 / 65536) (digits_l 4294967296 4 n))
    (bytes_of 16 (number_l 65536 xs) below)
    ∙ ap (map (λ w. w * 6553601 % 4294967296 / 65536)) (words_are 65536 4294967296 99
    (λ x y n p q. (omega (arith, p, q), omega (arith, p, q))) 4 xs long all)
    ∙ joins 65536 100 99 (λ w. w * 6553601 % 4294967296 / 65536)
    (λ x y p q. omega (arith, p, q)) xs all

pub two_are : (xs : List ℕ) → length xs ≡ 4 → AreAtMost 9999 xs
    → digits_l 18446744073709551616 2
    (number_l 256 (digits_l 256 16 (number_l 4294967296 xs))) ≡ as_words 4294967296 xs
two_are xs long all =
    let below : number_l 4294967296 xs < 4294967296 ^ 4 =
    subst (λ k. number_l 4294967296 xs < 4294967296 ^ k) long
    (below_power 4294967296 9999 (λ x n power p q. omega (arith, p, q)) xs all) in
    ap (digits_l 18446744073709551616 2) (bytes_of 16 (number_l 4294967296 xs) below)
    ∙ words_are 4294967296 18446744073709551616 9999
    (λ x y n p q. (omega (arith, p, q), omega (arith, p, q))) 2 xs long all

-- ---- what they are then

joined_most : (base most greatest : ℕ)
    → ((x y : ℕ) → x ≤ most → y ≤ most → x * base + y ≤ greatest)
    → (xs : List ℕ) → AreAtMost most xs → AreAtMost greatest (joined base xs)
joined_most base most greatest one [] all = tt
joined_most base most greatest one (x ∷ []) all = tt
joined_most base most greatest one (x ∷ y ∷ xs) all =
    (one x y all.0 all.1.0, joined_most base most greatest one xs all.1.1)

joined_length : (base n : ℕ) (xs : List ℕ) → length xs ≡ n + n → length (joined base xs) ≡ n
joined_length base zero [] long = refl
joined_length base zero (x ∷ xs) long = absurd (omega (arith, long))
joined_length base (suc n) [] long = absurd (omega (arith, long))
joined_length base (suc n) (x ∷ []) long = absurd (omega (arith, long))
joined_length base (suc n) (x ∷ y ∷ xs) long =
    ap suc (joined_length base n xs (omega (arith, long)))

-- digits are one number in a base and, two by two, in its square
in_joined : (base square : ℕ)
    → ((n x y : ℕ) → n * square + (x * base + y) ≡ (n * base + x) * base + y)
    → (k : ℕ) (xs : List ℕ) → length xs ≡ k + k
    → (n : ℕ) → in_base square n (joined base xs) ≡ in_base base n xs
in_joined base square one zero [] long n = refl
in_joined base square one zero (x ∷ xs) long n = absurd (omega (arith, long))
in_joined base square one (suc k) [] long n = absurd (omega (arith, long))
in_joined base square one (suc k) (x ∷ []) long n = absurd (omega (arith, long))
in_joined base square one (suc k) (x ∷ y ∷ xs) long n =
    ap (λ m. in_base square m (joined base xs)) (one n x y)
    ∙ in_joined base square one k xs (omega (arith, long)) ((n * base + x) * base + y)

-- the pairs of sixteen digits
pub pairs_hold : (xs : List ℕ) → length xs ≡ 16 → AreAtMost 9 xs
    → (length (joined 10 xs) ≡ 8) × AreAtMost 99 (joined 10 xs)
pairs_hold xs long all = (
  joined_length 10 8 xs long,
  joined_most 10 9 99 (λ x y p q. omega (arith, p, q)) xs all,
)

-- and theirs
fours_hold : (xs : List ℕ) → length xs ≡ 8 → AreAtMost 99 xs
    → (length (joined 100 xs) ≡ 4) × AreAtMost 9999 (joined 100 xs)
fours_hold xs long all = (
  joined_length 100 4 xs long,
  joined_most 100 99 9999 (λ x y p q. omega (arith, p, q)) xs all,
)

pub sixteen_held : (xs : List ℕ) → length xs ≡ 16 → AreAtMost 9 xs
    → (length (joined 100 (joined 10 xs)) ≡ 4) × AreAtMost 9999 (joined 100 (joined 10 xs))
sixteen_held xs long all =
    let held = pairs_hold xs long all in
    fours_hold (joined 10 xs) held.0 held.1

sixteen_joined : (xs : List ℕ) → length xs ≡ 16
    → in_base 10000 0 (joined 100 (joined 10 xs)) ≡ in_base 10 0 xs
sixteen_joined xs long =
    in_joined 100 10000 (λ n x y. omega arith) 4 (joined 10 xs) (joined_length 10 8 xs long) 0
    ∙ in_joined 10 100 (λ n x y. omega arith) 8 xs long 0

-- two words hold the four numbers that sixteen digits are
pub record TwoWords (digits words : List ℕ) : Type 0 where
  pub x : ℕ
  pub y : ℕ
  pub z : ℕ
  pub w : ℕ
  pub first : slice_index_or words 0 0 ≡ x + 4294967296 * y
  pub second : slice_index_or words 1 0 ≡ z + 4294967296 * w
  pub most : AreAtMost 9999 (x ∷ y ∷ z ∷ w ∷ [])
  pub number : in_base 10 0 digits ≡ ((x * 10000 + y) * 10000 + z) * 10000 + w

two_words_of : (digits fours words : List ℕ) → length fours ≡ 4 → AreAtMost 9999 fours
    → in_base 10000 0 fours ≡ in_base 10 0 digits → words ≡ as_words 4294967296 fours
    → TwoWords digits words
two_words_of digits [] words long all number are = absurd (omega (arith, long))
two_words_of digits (x ∷ []) words long all number are = absurd (omega (arith, long))
two_words_of digits (x ∷ y ∷ []) words long all number are = absurd (omega (arith, long))
two_words_of digits (x ∷ y ∷ z ∷ []) words long all number are = absurd (omega (arith, long))
two_words_of digits (x ∷ y ∷ z ∷ w ∷ v ∷ more) words long all number are =
    absurd (omega (arith, long))
two_words_of digits (x ∷ y ∷ z ∷ w ∷ []) words long all number are = record {
  x = x;
  y = y;
  z = z;
  w = w;
  first = ap (λ l. slice_index_or l 0 0) are;
  second = ap (λ l. slice_index_or l 1 0) are;
  most = all;
  number = omega (arith, number);
}

pub words_of : (digits pairs fours words : List ℕ) → length digits ≡ 16 → AreAtMost 9 digits
    → pairs ≡ joined 10 digits → fours ≡ joined 100 pairs → words ≡ as_words 4294967296 fours
    → TwoWords digits words
words_of digits pairs fours words long all first second are =
    let held = sixteen_held digits long all in
    two_words_of digits (joined 100 (joined 10 digits)) words held.0 held.1
    (sixteen_joined digits long)
    (are ∙ ap (as_words 4294967296) (second ∙ ap (joined 100) first))

-- ---- zeros before a number

pub zeros_before : (k : ℕ) (xs : List ℕ) → in_base 10 0 (replicate k 0 ++ xs) ≡ in_base 10 0 xs
zeros_before zero xs = refl
zeros_before (suc k) xs = zeros_before k xs

pub zeros_most : (k : ℕ) (xs : List ℕ) → AreAtMost 9 xs → AreAtMost 9 (replicate k 0 ++ xs)
zeros_most zero xs all = all
zeros_most (suc k) xs all = (omega arith, zeros_most k xs all)

-- ---- lanes that are moved after zeros

-- the indices that the lanes are taken from, with `zeros` zeros first: 240 and more before them,
-- where a lane is zero
abbrev places : ℕ → List ℕ
places zeros = map (λ p. (p + (256 - zeros % 256)) % 256) (range_with_len 0 16)

place_is : (zeros m : ℕ) → m < 16
    → get_or (places zeros) m 0 ≡ (m + (256 - zeros % 256)) % 256
place_is zeros m below =
    get_or-map-range_with_len (λ p. (p + (256 - zeros % 256)) % 256) 0 16 m m 0 below (omega arith)

-- the lane that is taken from there
lane_is : (xs : List ℕ) (zeros m : ℕ) → m < 16
    → get_or (swz_l w8 16 xs 0 (places zeros)) m 0
    ≡ cond (leb 128 ((m + (256 - zeros % 256)) % 256)) 0
    (get_or xs (16 * ((0 + m) / 16) + (m + (256 - zeros % 256)) % 256) 0)
lane_is xs zeros m below =
    get_or-swz_l w8 16 xs 0 (places zeros) m below
    ∙ ap (λ j. cond (leb 128 j) 0 (get_or xs (16 * ((0 + m) / 16) + j) 0)) (place_is zeros m below)

module _ (xs : List ℕ) (zeros count : ℕ) (all : zeros + count ≡ 16) where
  -- before the digits it is zero
  zero_lane : (m : ℕ) → m < zeros → get_or (swz_l w8 16 xs 0 (places zeros)) m 0
      ≡ get_or (replicate zeros 0 ++ take count xs) m 0
  zero_lane m below =
      let j = (m + (256 - zeros % 256)) % 256 in
      let long : length (replicate {A = ℕ} zeros 0) ≡ zeros = length-replicate zeros 0 in
      lane_is xs zeros m (omega (arith, below, all))
      ∙ cond-true (leb 128 j) 0 _ (le-leb 128 j (omega (arith, below, all)))
      ∙ sym (get_or_append_left (replicate zeros 0) (take count xs) 0 m
      (omega (arith, below, long)) ∙ get_or-replicate zeros m 0 0 below)

  -- and then a digit
  digit_lane : (m : ℕ) → m < 16 → zeros ≤ m → get_or (swz_l w8 16 xs 0 (places zeros)) m 0
      ≡ get_or (replicate zeros 0 ++ take count xs) m 0
  digit_lane m below from =
      let j = (m + (256 - zeros % 256)) % 256 in
      let at : 16 * ((0 + m) / 16) + j ≡ m - zeros = omega (arith, below, from, all) in
      lane_is xs zeros m below
      ∙ cond-false (leb 128 j) 0 _ (lt-leb 128 j (omega (arith, below, from, all)))
      ∙ ap (λ k. get_or xs k 0) at
      ∙ sym (get_or-append_right (replicate zeros 0) (take count xs) zeros m 0
      (length-replicate zeros 0) from
      ∙ get_or-take count xs (m - zeros) 0 (omega (arith, below, from, all)))

  moved_same : count ≤ length xs
      → swz_l w8 16 xs 0 (places zeros) ≡ replicate zeros 0 ++ take count xs
  moved_same enough =
      let first = length-swz_l w8 16 xs 0 (places zeros) in
      let long : length (replicate {A = ℕ} zeros 0) ≡ zeros = length-replicate zeros 0 in
      let second : length (replicate zeros 0 ++ take count xs) ≡ 16 =
      length-append (replicate zeros 0) (take count xs)
      ∙ omega (arith, all, long, length-take-le count xs enough) in
      ext_get_or 0 (swz_l w8 16 xs 0 (places zeros)) (replicate zeros 0 ++ take count xs)
      (first ∙ sym second) (λ m below. by m (omega (arith, below, first)) (cases_lt m zeros))
    where
      by : (m : ℕ) → m < 16 → (m < zeros) ⊎ (zeros ≤ m)
          → get_or (swz_l w8 16 xs 0 (places zeros)) m 0
          ≡ get_or (replicate zeros 0 ++ take count xs) m 0
      by m below (inl before) = zero_lane m before
      by m below (inr from) = digit_lane m below from

pub moved_are : (xs : List ℕ) (count : ℕ) → length xs ≡ 16 → count ≤ 16
    → swz_l w8 16 xs 0 (places (16 - count)) ≡ replicate (16 - count) 0 ++ take count xs
moved_are xs count long most =
    moved_same xs (16 - count) count (omega (arith, most)) (omega (arith, long, most))
