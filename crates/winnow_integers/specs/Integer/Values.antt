-- Properties of the numbers that bytes encode.
use Rattle.std.specs.Prelude.{◌≡◌, ◌<◌, ◌≤◌, ◌+◌, ◌*◌, ◌^◌, ℕ, List, [], ◌∷◌, ◌++◌}
use Rattle.std.specs.Prelude.{length, reverse}
use Rattle.std.proofs.Common.{sym, ap, ◌∙◌, arith}
use Rattle.std.proofs.lemmas.List.{reverse-append}
use Rattle.std.proofs.lemmas.List.Elements.{All-head, All-push, All-same, All-tail}
use Rattle.std.proofs.Math.Nat.{mul-le-mul_right, mul_assoc, add-mul, pow-succ'}
use Rattle.parser_definitions.specs.Integer.{AreBytes}
use Rattle.winnow_integers.specs.Integer.{value_of}

-- bytes in front of others stand for that many times 256 to the number of those
pub value_of_append : (xs ys : List ℕ)
    → value_of (xs ++ ys) ≡ value_of xs * 256 ^ length ys + value_of ys
value_of_append [] ys = omega arith
value_of_append (x ∷ xs) ys =
    ap (λ p. x * p + value_of (xs ++ ys)) (powers xs ys)
    ∙ ap (λ v. x * (256 ^ length xs * 256 ^ length ys) + v) (value_of_append xs ys)
    ∙ joined x (256 ^ length xs) (256 ^ length ys) (value_of xs) (value_of ys)
  where
    powers : (xs ys : List ℕ) → 256 ^ length (xs ++ ys) ≡ 256 ^ length xs * 256 ^ length ys
    powers [] ys = omega arith
    powers (x ∷ xs) ys =
        pow-succ' 256 (length (xs ++ ys)) ∙ ap (λ p. 256 * p) (powers xs ys)
        ∙ sym (mul_assoc 256 (256 ^ length xs) (256 ^ length ys))
        ∙ ap (λ p. p * 256 ^ length ys) (sym (pow-succ' 256 (length xs)))

    joined : (x p q v w : ℕ) → x * (p * q) + (v * q + w) ≡ (x * p + v) * q + w
    joined x p q v w =
        let a : x * (p * q) ≡ x * p * q = sym (mul_assoc x p q) in
        let b : (x * p + v) * q ≡ x * p * q + v * q = add-mul (x * p) v q in
        omega (arith, a, b)

-- the lowest first: the first byte, and 256 times the number that the others stand for
pub value_of_reverse : (b : ℕ) (bytes : List ℕ)
    → value_of (reverse (b ∷ bytes)) ≡ b + 256 * value_of (reverse bytes)
value_of_reverse b bytes =
    ap value_of (reverse-append (b ∷ []) bytes) ∙ value_of_append (reverse bytes) (b ∷ [])
    ∙ omega arith

-- bytes stand for less than 256 to their number
pub value_of_fits : (bytes : List ℕ) → AreBytes bytes → value_of bytes < 256 ^ length bytes
value_of_fits [] are = omega arith
value_of_fits (b ∷ bytes) are =
    let rest = value_of_fits bytes (All-tail (λ x. x < 256) b bytes are) in
    let small = All-head (λ x. x < 256) b bytes are in
    let first : b * 256 ^ length bytes ≤ 255 * 256 ^ length bytes =
    mul-le-mul_right (256 ^ length bytes) (omega (arith, small)) in
    omega (arith, rest, first, pow-succ' 256 (length bytes))

-- bytes are bytes in the other order
pub reverse_are_bytes : (bytes : List ℕ) → AreBytes bytes → AreBytes (reverse bytes)
reverse_are_bytes [] are = are
reverse_are_bytes (b ∷ bytes) are =
    All-same (λ x. x < 256) (reverse (b ∷ bytes)) (reverse bytes ++ b ∷ [])
    (reverse-append (b ∷ []) bytes)
    (All-push (λ x. x < 256) (reverse bytes) b
    (reverse_are_bytes bytes (All-tail (λ x. x < 256) b bytes are))
    (All-head (λ x. x < 256) b bytes are))
