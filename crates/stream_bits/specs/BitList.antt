-- The bits of bytes, greatest first, and the numbers that bits stand for.
use Rattle.std.specs.Prelude.{◌≡◌, ℕ, zero, suc, ◌+◌, ◌*◌, ◌/◌, ◌%◌, ◌^◌, ◌<◌, ◌==◌, Bool}
use Rattle.std.specs.Prelude.{true}
use Rattle.std.specs.Prelude.{false}
use Rattle.std.specs.Prelude.{List, [], ◌∷◌, ◌++◌, length}
use Rattle.std.proofs.Common.{refl, sym, ap, ◌∙◌, arith, append_assoc, length-append}
use Rattle.std.proofs.Math.Nat.{div-div-eq-div-mul}
use Rattle.std.proofs.lemmas.Nat.{mod-pow-add, pow-add}

-- the lowest n bits of a number, greatest first
unfoldable pub low_bits : ℕ → ℕ → List Bool
low_bits zero x = []
low_bits (suc n) x = (x / 2 ^ n % 2 == 1) ∷ low_bits n x

-- the bits of bytes, greatest first
unfoldable pub bits_of : List ℕ → List Bool
bits_of [] = []
bits_of (b ∷ bs) = low_bits 8 b ++ bits_of bs

-- the number of a bit
abbrev pub bit_number : Bool → ℕ
bit_number true = 1
bit_number false = 0

-- the number that bits encode, most significant bit first
unfoldable pub number_of : List Bool → ℕ
number_of [] = 0
number_of (b ∷ bs) = bit_number b * 2 ^ length bs + number_of bs

pub length_low : (n x : ℕ) → length (low_bits n x) ≡ n
unfolding low_bits
length_low zero x = refl
length_low (suc n) x = ap suc (length_low n x)

-- each byte has eight bits
pub length_bits : (bytes : List ℕ) → length (bits_of bytes) ≡ 8 * length bytes
unfolding bits_of
length_bits [] = refl
length_bits (b ∷ bs) =
    omega (arith, length-append (low_bits 8 b) (bits_of bs), length_low 8 b, length_bits bs)

pub bits_append : (xs ys : List ℕ) → bits_of (xs ++ ys) ≡ bits_of xs ++ bits_of ys
unfolding bits_of
bits_append [] ys = refl
bits_append (x ∷ xs) ys =
    ap (λ l. low_bits 8 x ++ l) (bits_append xs ys)
    ∙ sym (append_assoc (low_bits 8 x) (bits_of xs) (bits_of ys))

pub bits_nil : bits_of [] ≡ []
unfolding bits_of
bits_nil = refl

pub bits_cons : (b : ℕ) (bs : List ℕ) → bits_of (b ∷ bs) ≡ low_bits 8 b ++ bits_of bs
unfolding bits_of
bits_cons b bs = refl

-- the first n of n + m bits are those of the number without its lowest m
pub low_split : (n m x : ℕ) → low_bits (n + m) x ≡ low_bits n (x / 2 ^ m) ++ low_bits m x
unfolding low_bits
low_split zero m x = ap (λ k. low_bits k x) (omega arith)
low_split (suc n) m x =
    let shifted : x / 2 ^ (n + m) ≡ x / 2 ^ m / 2 ^ n =
    ap (λ d. x / d) (ap (λ k. 2 ^ k) (omega arith) ∙ pow-add 2 m n)
    ∙ sym (div-div-eq-div-mul x (2 ^ m) (2 ^ n)) in
    let longer : suc n + m ≡ suc (n + m) = omega arith in
    ap (λ k. low_bits k x) longer
    ∙ ap (λ d. (d % 2 == 1) ∷ low_bits (n + m) x) shifted
    ∙ ap (λ l. (x / 2 ^ m / 2 ^ n % 2 == 1) ∷ l) (low_split n m x)

pub number_nil : number_of [] ≡ 0
unfolding number_of
number_nil = refl

-- a number is that of its bits
one_bit : (d : ℕ) → d < 2 → bit_number (d == 1) ≡ d
one_bit zero h = refl
one_bit (suc zero) h = refl
one_bit (suc (suc d)) h = absurd (omega arith)

pub number_low : (n x : ℕ) → number_of (low_bits n x) ≡ x % 2 ^ n
unfolding low_bits number_of
number_low zero x = omega arith
number_low (suc n) x =
    let lower = number_low n x in
    let places = length_low n x in
    let split = mod-pow-add x 1 n in
    let bit = one_bit (x / 2 ^ n % 2) (omega arith) in
    ap (λ k. bit_number (x / 2 ^ n % 2 == 1) * 2 ^ k + number_of (low_bits n x)) places
    ∙ ap (λ b. b * 2 ^ n + number_of (low_bits n x)) bit
    ∙ ap (λ l. x / 2 ^ n % 2 * 2 ^ n + l) lower
    ∙ sym split
    ∙ ap (λ k. x % 2 ^ k) (omega arith)

-- the number of bits and then more
pub number_append : (xs ys : List Bool)
    → number_of (xs ++ ys) ≡ number_of xs * 2 ^ length ys + number_of ys
unfolding number_of
number_append [] ys = omega arith
number_append (x ∷ xs) ys =
    let more = number_append xs ys in
    let places : 2 ^ length (xs ++ ys) ≡ 2 ^ length xs * 2 ^ length ys =
    ap (λ k. 2 ^ k) (length-append xs ys) ∙ pow-add 2 (length xs) (length ys) in
    ap (λ p. bit_number x * p + number_of (xs ++ ys)) places
    ∙ ap (λ n. bit_number x * (2 ^ length xs * 2 ^ length ys) + n) more
    ∙ distributes (bit_number x) (2 ^ length xs) (2 ^ length ys) (number_of xs) (number_of ys)
  where
    distributes : (b p q n m : ℕ) → b * (p * q) + (n * q + m) ≡ (b * p + n) * q + m
    distributes b p q n m = grind arith

pub number_below : (xs : List Bool) → number_of xs < 2 ^ length xs
unfolding number_of
number_below [] = omega arith
number_below (x ∷ xs) =
    let lower = number_below xs in
    let places : 2 ^ suc (length xs) ≡ 2 * 2 ^ length xs = grind arith in
    below x (2 ^ length xs) (number_of xs) lower places
  where
    below : (b : Bool) (p n : ℕ) {q : ℕ} → n < p → q ≡ 2 * p → bit_number b * p + n < q
    below true p n h e = omega (arith, h, e)
    below false p n h e = omega (arith, h, e)

-- a byte is known by its bits
pub same_byte : (x y : ℕ) → x < 256 → y < 256 → low_bits 8 x ≡ low_bits 8 y → x ≡ y
same_byte x y h k e =
    let numbers : x % 2 ^ 8 ≡ y % 2 ^ 8 = sym (number_low 8 x) ∙ ap number_of e ∙ number_low 8 y in
    omega (arith, numbers, h, k)
