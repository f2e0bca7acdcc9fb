-- Lemmas about the decimal digits of a number: they are one list, and the one that std writes.
use Rattle.std.specs.Prelude.{◌≡◌, ◌<◌, ◌≤◌, ◌+◌, ◌*◌, ◌^◌, ℕ, List, [], ◌∷◌, ◌++◌}
use Rattle.std.specs.Prelude.{length, ◌/◌, ◌%◌, ◌⊎◌}
use Rattle.std.specs.Char.{digit_value}
use Rattle.std.specs.Fmt.{decimal}
use Rattle.std.specs.List.{AllByRecursion}
use Rattle.std.specs.Str.Parse.{AllDigits}
use Rattle.std.proofs.Common.{refl, sym, ap, ◌∙◌, inl, inr, zero, suc, arith}
use Rattle.std.proofs.Math.Nat.{mul-le-mul_right, one-le-pow, pow-le-pow_right, pow-suc, pow-zero}
use Rattle.std.proofs.lemmas.Bool.{cases_order}
use Rattle.std.proofs.lemmas.Fmt.{decimal_by_steps_wide, decimal_is_IsNumeral_wide}
use Rattle.std.proofs.lemmas.Str.{digit_value_digit}
use Rattle.std.proofs.lemmas.Str.Parse.{digit_from_value}
use Rattle.streams.specs.Equal.{same_first, same_others}
use Rattle.stream_sets.specs.AsChar.{IsDecDigit}
use Rattle.parser_definitions.specs.Digits.{value_in, value_is}
use Rattle.parser_definitions.specs.NumberGrammar.{IsDecimalOf}

-- ---- there is one list of digits

-- the value of a digit
digit_is : (c : ℕ) → IsDecDigit c → digit_value c + 48 ≡ c
digit_is c is = digit_value_digit c is

-- digits stand for less than the base to their number
value_below : (ds : List ℕ) → AllByRecursion IsDecDigit ds → value_in 10 ds < 10 ^ length ds
value_below [] all = omega (arith, pow-zero 10)
value_below (d ∷ ds) all =
    let digit = digit_is d all.0 in
    omega (
      arith,
      digit,
      all.0,
      mul-le-mul_right {m = digit_value d} {n = 9} (10 ^ length ds) (omega (arith, digit, all.0)),
      value_below ds all.1,
      pow-suc 10 (length ds),
    )

-- and, where the first is no '0', for as much as the base to the number of the others
value_above : (d : ℕ) (ds : List ℕ) → IsDecDigit d → (d ≡ 48 → ⊥)
    → 10 ^ length ds ≤ value_in 10 (d ∷ ds)
value_above d ds is leads =
    let digit = digit_is d is in
    omega (
      arith,
      digit,
      mul-le-mul_right {m = 1} {n = digit_value d} (10 ^ length ds)
          (omega (arith, digit, is, leads)),
    )

lesser : (c d p v w : ℕ) → c < d → v < p → c * p + v ≡ d * p + w → ⊥
lesser c d p v w less low same =
    omega (arith, mul-le-mul_right {m = suc c} {n = d} p less, low, same)

same_digit : (c d p v w : ℕ) → v < p → w < p → c * p + v ≡ d * p + w → c ≡ d
same_digit c d p v w low other same = by (cases_order c d)
  where
    by : (c ≡ d) ⊎ ((c < d) ⊎ (d < c)) → c ≡ d
    by (inl e) = e
    by (inr (inl less)) = absurd (lesser c d p v w less low same)
    by (inr (inr more)) = absurd (lesser d c p w v more other (sym same))

-- as many digits that stand for the same number are the same
same_digits : (xs ys : List ℕ) → AllByRecursion IsDecDigit xs → AllByRecursion IsDecDigit ys
    → length xs ≡ length ys → value_in 10 xs ≡ value_in 10 ys → xs ≡ ys
same_digits [] [] all others long same = refl
same_digits [] (y ∷ ys) all others long same = absurd (omega (arith, long))
same_digits (x ∷ xs) [] all others long same = absurd (omega (arith, long))
same_digits (x ∷ xs) (y ∷ ys) all others long same =
    let short : length xs ≡ length ys = omega (arith, long) in
    let power : 10 ^ length xs ≡ 10 ^ length ys = ap (λ k. 10 ^ k) short in
    let low = value_below xs all.1 in
    let other : value_in 10 ys < 10 ^ length xs = omega (arith, value_below ys others.1, power) in
    let aligned : digit_value x * 10 ^ length xs + value_in 10 xs
    ≡ digit_value y * 10 ^ length xs + value_in 10 ys =
    same ∙ ap (λ p. digit_value y * p + value_in 10 ys) (sym power) in
    let digit = same_digit (digit_value x) (digit_value y) (10 ^ length xs) _ _ low other aligned in
    let first : x ≡ y = omega (arith, digit, digit_is x all.0, digit_is y others.0) in
    let rest : value_in 10 xs ≡ value_in 10 ys =
    omega (arith, aligned, ap (λ c. c * 10 ^ length xs) digit) in
    ap (λ c. c ∷ xs) first ∙ ap (λ l. y ∷ l) (same_digits xs ys all.1 others.1 short rest)

-- a first '0' is alone, and stands for 0; other digits stand for as much as their number says
abbrev HasLength : List ℕ → ℕ → Type 0
HasLength others n =
    ((others ≡ []) × (n ≡ 0)) ⊎ ((10 ^ length others ≤ n) × (n < 10 ^ suc (length others)))

length_by : (d : ℕ) (ds : List ℕ) (n : ℕ) → IsDecimalOf (d ∷ ds) n
    → (d ≡ 48) ⊎ ((d < 48) ⊎ (48 < d)) → HasLength ds n
length_by d ds n is (inl first) =
    let alone = is.lone_zero ds (ap (λ c. c ∷ ds) first) in
    let none : value_in 10 ds ≡ 0 = ap (λ l. value_in 10 l) alone in
    let one : 10 ^ length ds ≡ 1 = ap (λ l. 10 ^ length l) alone ∙ pow-zero 10 in
    inl (
      alone,
      omega (
        arith,
        is.value,
        none,
        first,
        digit_is d is.are.1.0,
        ap (λ p. digit_value d * p) one,
      ),
    )
length_by d ds n is (inr (inl low)) = absurd (omega (arith, is.are.1.0, low))
length_by d ds n is (inr (inr leads)) = inr (
  omega (arith, is.value, value_above d ds is.are.1.0 (λ e. omega (arith, e, leads))),
  omega (arith, is.value, value_below (d ∷ ds) is.are.1),
)

-- two lengths between the same powers
shorter : (k l n : ℕ) → k < l → n < 10 ^ suc k → 10 ^ l ≤ n → ⊥
shorter k l n less low high =
    omega (arith, low, high, pow-le-pow_right {n = 10} (omega arith) {i = suc k} {j = l} less)

no_power : (k : ℕ) → 10 ^ k ≤ 0 → ⊥
no_power k low = omega (arith, low, one-le-pow k 10 (omega arith))

same_length : (xs ys : List ℕ) (n : ℕ) → HasLength xs n → HasLength ys n → length xs ≡ length ys
same_length xs ys n (inl (none, is)) (inl (other, same)) = ap (λ l. length l) (none ∙ sym other)
same_length xs ys n (inl (none, is)) (inr (low, high)) =
    absurd (no_power (length ys) (omega (arith, is, low)))
same_length xs ys n (inr (low, high)) (inl (none, is)) =
    absurd (no_power (length xs) (omega (arith, is, low)))
same_length xs ys n (inr (low, high)) (inr (least, most)) = by (cases_order (length xs) (length ys))
  where
    by : (length xs ≡ length ys) ⊎ ((length xs < length ys) ⊎ (length ys < length xs))
        → length xs ≡ length ys
    by (inl e) = e
    by (inr (inl less)) = absurd (shorter (length xs) (length ys) n less high least)
    by (inr (inr more)) = absurd (shorter (length ys) (length xs) n more most low)

-- The decimal digits of a number are one list.
pub one_decimal : (xs ys : List ℕ) (n : ℕ) → IsDecimalOf xs n → IsDecimalOf ys n → xs ≡ ys
one_decimal [] ys n p q = absurd (omega (arith, p.are.0))
one_decimal (x ∷ xs) [] n p q = absurd (omega (arith, q.are.0))
one_decimal (x ∷ xs) (y ∷ ys) n p q =
    let long = same_length xs ys n (length_by x xs n p (cases_order x 48))
    (length_by y ys n q (cases_order y 48)) in
    same_digits (x ∷ xs) (y ∷ ys) p.are.1 q.are.1 (ap suc long) (p.value ∙ sym q.value)

-- ---- it is what std writes

pub digits_all : (ds : List ℕ) → AllDigits 10 ds → AllByRecursion IsDecDigit ds
digits_all [] all = tt
digits_all (d ∷ ds) all = (digit_from_value d all.0, digits_all ds all.1)

-- the first digit is no '0', but of the number 0, and that is the only one
abbrev LeadingDigit : ℕ → List ℕ → Type 0
LeadingDigit n ds =
    (c : ℕ) × (cs : List ℕ) × (ds ≡ c ∷ cs) × (0 < n → 48 < c) × (n ≡ 0 → cs ≡ [])

leads_more : (n : ℕ) (ds : List ℕ) → 10 ≤ n → LeadingDigit (n / 10) ds
    → LeadingDigit n (ds ++ ((48 + n % 10) ∷ []))
leads_more n ds large (c, cs, e, leads, alone) =
    let some : 0 < n / 10 = omega (arith, large) in (
      c,
      cs ++ ((48 + n % 10) ∷ []),
      ap (λ l. l ++ ((48 + n % 10) ∷ [])) e,
      λ _. leads some,
      λ none. absurd (omega (arith, large, none)),
    )

decimal_leads : (n : ℕ) → n < 10 ^ 64 → LeadingDigit n (decimal n)
decimal_leads =
    decimal_by_steps_wide LeadingDigit
    (λ n small. (48 + n, [], refl, λ some. omega (arith, some), λ none. refl)) leads_more

lone : (n : ℕ) (ds : List ℕ) → LeadingDigit n ds → (others : List ℕ) → ds ≡ 48 ∷ others
    → others ≡ []
lone zero ds (c, cs, e, leads, alone) others f = sym (same_others (sym e ∙ f)) ∙ alone refl
lone (suc m) ds (c, cs, e, leads, alone) others f =
    absurd (omega (arith, same_first (sym e ∙ f), leads (omega arith)))

-- The output of std's `{}` for a number with at most 64 digits is its decimal digits ...
pub decimal_digits : (n : ℕ) → n < 10 ^ 64 → IsDecimalOf (decimal n) n
decimal_digits n small =
    let numeral = decimal_is_IsNumeral_wide n small in
    record {
      are = (numeral.0.0, digits_all (decimal n) numeral.0.1);
      lone_zero = lone n (decimal n) (decimal_leads n small);
      value = sym (value_is 10 (decimal n)) ∙ numeral.1;
    }

-- ... and so its decimal digits are what is written of it.
pub digits_written : (digits : List ℕ) (n : ℕ) → n < 10 ^ 64 → IsDecimalOf digits n
    → digits ≡ decimal n
digits_written digits n small is = one_decimal digits (decimal n) n is (decimal_digits n small)
