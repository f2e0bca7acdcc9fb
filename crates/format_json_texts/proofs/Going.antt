-- Digits go on to where they end.
use Rattle.std.proofs.Common.{◌≡◌, ◌∙◌, ◌<◌, ◌≤◌, ◌+◌, ◌-◌, ◌*◌, ◌^◌, ℕ, zero, suc, List}
use Rattle.std.proofs.Common.{[]}
use Rattle.std.proofs.Common.{◌∷◌, ◌++◌, ap, arith, subst, sym}
use Rattle.std.proofs.Math.Nat.{le-mul_of_pos_right, pow-le-pow_right}
use Rattle.std.proofs.lemmas.Str.{digit_value_digit}
use Rattle.std.specs.Char.{digit_value}
use Rattle.std.specs.List.{AllByRecursion}
use Rattle.std.specs.Str.Parse.{digits_value_after}
use Rattle.format_json_texts.proofs.Tens.{push_too_long, push_zero}
use Rattle.format_json_texts.specs.NumberParts.{IsDigit}
use Rattle.format_json_texts.specs.Digits.{ContinuesDigits, IsReduced, IsTooLong}

pub heads_equal : {x y : ℕ} {xs ys : List ℕ} → x ∷ xs ≡ y ∷ ys → x ≡ y
heads_equal e = cc

pub tails_equal : {x y : ℕ} {xs ys : List ℕ} → x ∷ xs ≡ y ∷ ys → xs ≡ ys
tails_equal e = cc

pub stops_here : (n total : ℕ) (bytes rest : List ℕ) → ContinuesDigits n bytes total rest
    → ((b : ℕ) (more : List ℕ) → bytes ≡ b ∷ more → IsDigit b → ⊥)
    → (bytes ≡ rest) × (total ≡ n)
stops_here n total bytes rest c none = by c.digits c.are_digits c.joins c.makes
  where
    by : (ds : List ℕ) → AllByRecursion IsDigit ds → bytes ≡ ds ++ rest
        → total ≡ digits_value_after 10 n ds → (bytes ≡ rest) × (total ≡ n)
    by [] are joins makes = (joins, makes)
    by (d ∷ ds) are joins makes = absurd (none d (ds ++ rest) joins are.0)

pub goes_on : (n total b : ℕ) (bytes more rest : List ℕ) → ContinuesDigits n bytes total rest
    → bytes ≡ b ∷ more → IsDigit b → ContinuesDigits (n * 10 + (b - 48)) more total rest
goes_on n total b bytes more rest c begins is = by c.digits c.are_digits c.joins c.makes
  where
    by : (ds : List ℕ) → AllByRecursion IsDigit ds → bytes ≡ ds ++ rest
        → total ≡ digits_value_after 10 n ds → ContinuesDigits (n * 10 + (b - 48)) more total rest
    by [] are joins makes = absurd (c.ends b more (sym joins ∙ begins) is)
    by (d ∷ ds) are joins makes =
        let e : b ≡ d = heads_equal (sym begins ∙ joins) in
        let same : n * 10 + digit_value d ≡ n * 10 + (b - 48) =
        omega (arith, digit_value_digit d are.0, e) in
        record {
          digits = ds;
          are_digits = are.1;
          joins = tails_equal (sym begins ∙ joins);
          makes = makes ∙ ap (λ k. digits_value_after 10 k ds) same;
          ends = c.ends;
        }

-- a digit more leaves what is too long too long
longer : (n d : ℕ) → d < 10 → IsTooLong n → IsTooLong (n * 10 + d)
longer n zero less (m, z, is, long) =
    (m, z + 1, push_zero n m z (λ none. omega (arith, none, long)) is, long)
longer n (suc d) less (m, z, is, long) =
    let some : 1 ≤ 10 ^ z = pow-le-pow_right (omega arith) {i = 0} {j = z} (omega arith) in
    let most : m ≤ m * 10 ^ z = le-mul_of_pos_right m some in
    push_too_long n (suc d) (λ e. omega (arith, e)) less (omega (arith, most, is.0, long))

pub digits_stay_long : (n : ℕ) (ds : List ℕ) → AllByRecursion IsDigit ds → IsTooLong n
    → IsTooLong (digits_value_after 10 n ds)
digits_stay_long n [] are long = long
digits_stay_long n (d ∷ ds) are long =
    digits_stay_long (n * 10 + digit_value d) ds are.1
    (longer n (digit_value d) (omega (arith, digit_value_digit d are.0, are.0)) long)

pub stays_long : (n total : ℕ) (bytes rest : List ℕ) → ContinuesDigits n bytes total rest
    → IsTooLong n
    → IsTooLong total
stays_long n total bytes rest c long =
    subst IsTooLong (sym c.makes) (digits_stay_long n c.digits c.are_digits long)

pub no_more : (first : ℕ) (more bytes : List ℕ) → bytes ≡ first ∷ more → (IsDigit first → ⊥)
    → (b : ℕ) (others : List ℕ) → bytes ≡ b ∷ others → IsDigit b → ⊥
no_more first more bytes begins not b others e is =
    not (subst IsDigit (heads_equal (sym e ∙ begins)) is)

pub stops_reduced : (n total digits zeros : ℕ) (bytes rest : List ℕ) → IsReduced n digits zeros
    → ContinuesDigits n bytes total rest
    → ((b : ℕ) (more : List ℕ) → bytes ≡ b ∷ more → IsDigit b → ⊥)
    → (bytes ≡ rest) × IsReduced total digits zeros
stops_reduced n total digits zeros bytes rest is goes none =
    let (there, same) = stops_here n total bytes rest goes none in
    (there, subst (λ k. IsReduced k digits zeros) (sym same) is)
