-- The relation of std's definitions for the bytes of integers to the values of bytes.
use Rattle.std.specs.Prelude.{◌≡◌, ◌<◌, ◌≤◌, ◌-◌, ◌*◌, ◌^◌, ℕ, suc, List, []}
use Rattle.std.specs.Prelude.{◌∷◌}
use Rattle.std.specs.Prelude.{length, reverse, ℤ, Bool, true, false, nat_lt}
use Rattle.std.specs.Int.{Width, w8, w16, w32, w64, w128, byte_len}
use Rattle.std.specs.Int.{from_be_bytes, from_le_bytes, cast_signed, cast_unsigned}
use Rattle.std.proofs.Common.{refl, ap, ◌∙◌, arith}
use Rattle.std.proofs.lemmas.Bool.{le-ltb, ltb-false, ltb-true}
use Rattle.std.proofs.lemmas.Int.{ints, of_z-to_z, to_z_pos}
use Rattle.std.proofs.lemmas.List.{length-reverse}
use Rattle.std.proofs.lemmas.List.Elements.{All-head, All-tail}
use Rattle.std.proofs.Math.Nat.{mul-le-mul_right, pow-succ'}
use Rattle.parser_definitions.specs.Integer.{AreBytes}
use Rattle.winnow_integers.specs.Integer.{signed_of, value_of}
use Rattle.winnow_integers.specs.Integer.Laws.{integer_made, integer_missing}
use Rattle.winnow_integers.specs.Integer.Values.{reverse_are_bytes, value_of_fits}
use mir.Val.{bits, hbits}
use Rattle.winnow_integers.specs.Integer.Std.{from_be, from_le}

-- ---- std's words

half : (w : Width) → 2 ^ hbits w ≡ 128 * 256 ^ (byte_len w - 1)
half w8 = omega arith
half w16 = omega arith
half w32 = omega arith
half w64 = omega arith
half w128 = omega arith

whole : (w : Width) → 2 ^ bits w ≡ 256 * 256 ^ (byte_len w - 1)
whole w8 = omega arith
whole w16 = omega arith
whole w32 = omega arith
whole w64 = omega arith
whole w128 = omega arith

pub fits_width : (w : Width) (bytes : List ℕ) → length bytes ≡ suc (byte_len w - 1)
    → AreBytes bytes → value_of bytes < 2 ^ bits w
fits_width w bytes e are =
    omega (
      arith,
      value_of_fits bytes are,
      whole w,
      ap (λ k. 256 ^ k) e,
      pow-succ' 256 (byte_len w - 1),
    )

-- and that number read as signed is the signed number of the bytes
pub signed_value_of : (w : Width) (bytes : List ℕ) → length bytes ≡ suc (byte_len w - 1)
    → AreBytes bytes → cast_signed w (value_of bytes) ≡ signed_of bytes
signed_value_of w [] e are = absurd (omega (arith, e))
signed_value_of w (b ∷ bytes) e are = by (nat_lt b 128) refl
  where
    p : ℕ
    p = 256 ^ length bytes

    low : p ≡ 256 ^ (byte_len w - 1)
    low = ap (λ k. 256 ^ k) (omega (arith, e))

    rest : value_of bytes < p
    rest = value_of_fits bytes (All-tail (λ x. x < 256) b bytes are)

    small : b < 256
    small = All-head (λ x. x < 256) b bytes are

    by : (t : Bool) → nat_lt b 128 ≡ t
        → cast_signed w (value_of (b ∷ bytes)) ≡ signed_of (b ∷ bytes)
    by true is =
        let first : b * p ≤ 127 * p = mul-le-mul_right p (omega (arith, ltb-true b 128 is)) in
        rw is (to_z_pos w (value_of (b ∷ bytes)) (omega (arith, rest, first, half w, low)))
    by false is =
        let first : 128 * p ≤ b * p = mul-le-mul_right p (ltb-false b 128 is) in
        let last : b * p ≤ 255 * p = mul-le-mul_right p (omega (arith, small)) in
        rw (is, le-ltb (value_of (b ∷ bytes)) (2 ^ hbits w) (omega (arith, first, half w, low)))
        (omega (arith, ints, rest, last, whole w, low, pow-succ' 256 (length bytes)))

answered : (w : Width) (bytes : List ℕ) (z : ℤ) → z ≡ cast_signed w (value_of bytes)
    → length bytes ≡ suc (byte_len w - 1) → AreBytes bytes
    → cast_signed w (cast_unsigned w z) ≡ signed_of bytes
answered w bytes z is e are =
    ap (λ x. cast_signed w (cast_unsigned w x)) is
    ∙ ap (cast_signed w) (of_z-to_z w (value_of bytes) (fits_width w bytes e are))
    ∙ signed_value_of w bytes e are

-- as std reads it of bytes, the highest first, and the lowest first
pub signed_be : (w : Width) (bytes : List ℕ) (z : ℤ) → z ≡ cast_signed w (from_be_bytes w bytes)
    → length bytes ≡ suc (byte_len w - 1) → AreBytes bytes
    → cast_signed w (cast_unsigned w z) ≡ signed_of bytes
signed_be w bytes z is e are =
    answered w bytes z (is ∙ ap (cast_signed w) (from_be w bytes e)) e are

pub signed_le : (w : Width) (bytes : List ℕ) (z : ℤ) → z ≡ cast_signed w (from_le_bytes w bytes)
    → length bytes ≡ suc (byte_len w - 1) → AreBytes bytes
    → cast_signed w (cast_unsigned w z) ≡ signed_of (reverse bytes)
signed_le w bytes z is e are =
    answered w (reverse bytes) z (is ∙ ap (cast_signed w) (from_le w bytes e))
    (length-reverse bytes ∙ e) (reverse_are_bytes bytes are)

-- what the proofs of all integers take
pub ruleset integers = (from_be, from_le, signed_be, signed_le, integer_made, integer_missing)
