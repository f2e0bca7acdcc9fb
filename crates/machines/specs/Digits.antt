-- Numerals of digits, with a mark after them.
use Rattle.std.specs.Prelude.{◌≡◌, ◌≤◌, ◌<◌, ◌+◌, ◌*◌, ◌⊎◌, ℕ, zero, suc, List, [], ◌∷◌}
use Rattle.std.specs.Prelude.{◌++◌, Bool, IsTrue, ⊤, Option, Some, None}
use Rattle.std.proofs.Common.{inl, inr, arith}
use Rattle.machines.specs.Grammar.{Grammar}
use Rattle.machines.specs.Languages.{Concat, Language}
use Rattle.machines.specs.Numbers.{Numerals, Steps}
use Rattle.machines.specs.declared.digits.Stage.{Stage}
use Rattle.machines.specs.declared.digits.Stage.TheVariants.{Digits, Mark, Start}

-- The digits of a radix: the bytes that are digits, and their values.
pub record DigitSet : Type 0 where
  pub radix : ℕ
  pub has : ℕ → Bool
  pub value : ℕ → ℕ

-- `AreDigits d`: the radix is at least two, and some byte is the digit zero.
pub record AreDigits (d : DigitSet) : Type 0 where
  pub two : 2 ≤ d.radix
  pub zero_digit : ℕ
  pub is_digit : IsTrue (d.has zero_digit)
  pub is_zero : d.value zero_digit ≡ 0

-- `DigitsOf d from n`: the digits that continue the number `from` to `n`.
abbrev pub DigitsOf : DigitSet → ℕ → ℕ → Language
DigitsOf d from n [] = from ≡ n
DigitsOf d from n (b ∷ bytes) = IsTrue (d.has b) × DigitsOf d (from * d.radix + d.value b) n bytes

-- `NumeralOf d n`: one or more digits of the number `n`.
abbrev pub NumeralOf : DigitSet → ℕ → Language
NumeralOf d n [] = ⊥
NumeralOf d n (b ∷ bytes) = DigitsOf d 0 n (b ∷ bytes)

-- A numeral of `n` and then a word of `mark`, if `n` is at most `limit`.
abbrev pub MarkedNumeral : DigitSet → ℕ → Language → ℕ → Language
MarkedNumeral d limit mark n bytes = (n ≤ limit) × Concat (NumeralOf d n) mark bytes

-- the value of the byte `b`, if it is a digit
abbrev pub IsDigitOf : DigitSet → ℕ → Option ℕ → Type 0
IsDigitOf d b None = IsTrue (d.has b) → ⊥
IsDigitOf d b (Some n) = IsTrue (d.has b) × (n ≡ d.value b)

-- the number `from` with the digit `b`, if it is at most `limit`
abbrev pub IsNumberWith : DigitSet → ℕ → ℕ → ℕ → Option ℕ → Type 0
IsNumberWith d limit from b None = IsTrue (d.has b) → limit < from * d.radix + d.value b
IsNumberWith d limit from b (Some n) =
    IsTrue (d.has b) × (from * d.radix + d.value b ≡ n) × (n ≤ limit)

-- with the next digit, if there is one, the number is over `limit`
abbrev pub HasNoDigit : DigitSet → ℕ → ℕ → List ℕ → Type 0
HasNoDigit d limit from [] = ⊤
HasNoDigit d limit from (b ∷ bytes) = IsTrue (d.has b) → limit < from * d.radix + d.value b

-- The words that complete a numeral of `n`. If the number of a state is over the limit, only the
-- mark may follow.
abbrev pub Spells : {S : Type 0} → DigitSet → ℕ → Grammar S → Stage S → ℕ → Language
Spells d limit g Start n bytes = MarkedNumeral d limit (g.residual g.start) n bytes
Spells d limit g (Digits v) n bytes =
    ((n ≤ limit) ⊎ (n ≤ v)) × Concat (DigitsOf d v n) (g.residual g.start) bytes
Spells d limit g (Mark v s) n bytes = (v ≡ n) × g.residual s bytes

abbrev pub digit_numerals : {S : Type 0} → DigitSet → ℕ → Grammar S → Numerals (Stage S)
digit_numerals d limit g = record {
  start = Start;
  spells = Spells d limit g;
  firsts = d.has;
}

-- The longest sequence of digits, up to a number of at most `limit`.
pub record ReadsDigits {S : Type 0} (d : DigitSet) (limit : ℕ) (g : Grammar S) (from : ℕ)
    (bytes : List ℕ) (to : ℕ) (left : List ℕ) : Type 0 where
  pub front : List ℕ
  pub splits : bytes ≡ front ++ left
  pub steps : Steps (digit_numerals d limit g) (Digits from) front (Digits to)
  pub stopped : HasNoDigit d limit to left

-- ---- numbers grow by digits

pub keeps : (v radix d : ℕ) → 2 ≤ radix → v ≤ v * radix + d
keeps v (suc (suc k)) d two = by (times_two v k)
  where
    times_two : (v k : ℕ) → v * suc (suc k) ≡ v + v + v * k
    times_two v k = grind arith

    by : v * suc (suc k) ≡ v + v + v * k → v ≤ v * suc (suc k) + d
    by e = omega (arith, e)
keeps v (suc zero) d two = omega (arith, two)
keeps v zero d two = omega (arith, two)

pub grows : (v radix d : ℕ) → 2 ≤ radix → 1 ≤ v → v < v * radix + d
grows v (suc (suc k)) d two some = by (times_two v k)
  where
    times_two : (v k : ℕ) → v * suc (suc k) ≡ v + v + v * k
    times_two v k = grind arith

    by : v * suc (suc k) ≡ v + v + v * k → v < v * suc (suc k) + d
    by e = omega (arith, e, some)
grows v (suc zero) d two some = omega (arith, two)
grows v zero d two some = omega (arith, two)

module _ (d : DigitSet) (ld : AreDigits d) where
  -- a number is not less than its first digits
  at_least : (from n : ℕ) (bytes : List ℕ) → DigitsOf d from n bytes → from ≤ n
  at_least from n [] e = omega (arith, e)
  at_least from n (b ∷ bytes) it = omega (
    arith,
    keeps from d.radix (d.value b) ld.two,
    at_least (from * d.radix + d.value b) n bytes it.1,
  )

  -- no numeral continues with a digit with which it is over the limit
  pub too_large : (limit v n b : ℕ) (word : List ℕ) → limit < v * d.radix + d.value b
      → (n ≤ limit) ⊎ (n ≤ v) → DigitsOf d v n (b ∷ word) → ⊥
  too_large limit v n b word over (inl low) it =
      omega (arith, over, low, at_least (v * d.radix + d.value b) n word it.1)
  too_large limit zero n b word over (inr low) it =
      omega (arith, over, low, at_least (zero * d.radix + d.value b) n word it.1)
  too_large limit (suc v) n b word over (inr low) it = omega (
    arith,
    low,
    at_least (suc v * d.radix + d.value b) n word it.1,
    grows (suc v) d.radix (d.value b) ld.two (omega arith),
  )
