-- The bytes of an integer, as std's `to_be_bytes` and `to_le_bytes` write them.
use Rattle.std.specs.Prelude.{◌≡◌, ◌<◌, ◌+◌, ◌*◌, ◌/◌, ◌%◌, ◌^◌, ℕ, zero, suc, List, []}
use Rattle.std.specs.Prelude.{◌∷◌, length}
use Rattle.std.specs.Int.{byte_at, bytes_high_first}
use Rattle.std.proofs.Common.{refl, sym, ap, ◌∙◌, arith}
use Rattle.std.proofs.lemmas.List.Elements.{All-head, All-tail}
use Rattle.std.proofs.lemmas.Nat.{div-mul-add}
use Rattle.std.proofs.Math.Nat.{div-add-mod', div-lt_iff_lt-mul, div-one, mod-eq_of_lt, mod-lt}
use Rattle.std.proofs.Math.Nat.{mul-add-div_right, mul-add-mod_self_right, mul_assoc}
use Rattle.std.proofs.Math.Nat.{one-le-pow, pow-succ'}
use Rattle.parser_definitions.specs.Integer.{AreBytes}
use Rattle.winnow_integers.specs.Integer.{value_of}
use Rattle.winnow_integers.specs.Integer.Values.{value_of_fits}

positive : (n : ℕ) → 0 < 256 ^ n
positive n = omega (arith, one-le-pow n 256 (omega arith))

byte_is : (k x : ℕ) → byte_at k x ≡ x / 256 ^ k % 256
byte_is zero x = ap (λ y. y % 256) (sym (div-one x))
byte_is (suc k) x = refl

lowest : (k c v : ℕ) → bytes_high_first k (c * 256 ^ k + v) ≡ bytes_high_first k v
lowest zero c v = refl
lowest (suc k) c v =
    let split : c * 256 ^ suc k + v ≡ c * 256 * 256 ^ k + v =
    ap (λ p. c * p + v) (pow-succ' 256 k) ∙ ap (λ x. x + v) (sym (mul_assoc c 256 (256 ^ k))) in
    let first : byte_at k (c * 256 * 256 ^ k + v) ≡ byte_at k v =
    byte_is k (c * 256 * 256 ^ k + v)
    ∙ ap (λ x. x % 256) (mul-add-div_right {m = 256 ^ k} (positive k) (c * 256) v)
    ∙ mul-add-mod_self_right c 256 (v / 256 ^ k) ∙ sym (byte_is k v) in
    ap (λ x. bytes_high_first (suc k) x) split
    ∙ ap (λ x. x ∷ bytes_high_first k (c * 256 * 256 ^ k + v)) first
    ∙ ap (λ l. byte_at k v ∷ l) (lowest k (c * 256) v)

-- the bytes of the number that bytes stand for are those
pub value_written : (bytes : List ℕ) → AreBytes bytes
    → bytes_high_first (length bytes) (value_of bytes) ≡ bytes
value_written [] are = refl
value_written (b ∷ bytes) are =
    let small = All-head (λ x. x < 256) b bytes are in
    let others = All-tail (λ x. x < 256) b bytes are in
    let first : byte_at (length bytes) (value_of (b ∷ bytes)) ≡ b =
    byte_is (length bytes) (value_of (b ∷ bytes))
    ∙ ap (λ x. x % 256) (div-mul-add b (256 ^ length bytes) (value_of bytes)
    (value_of_fits bytes others)) ∙ mod-eq_of_lt small in
    ap (λ x. x ∷ bytes_high_first (length bytes) (value_of (b ∷ bytes))) first
    ∙ ap (λ l. b ∷ l) (lowest (length bytes) b (value_of bytes) ∙ value_written bytes others)

pub be_written : (width n : ℕ) (bytes : List ℕ) → n ≡ value_of bytes → length bytes ≡ width
    → AreBytes bytes → bytes_high_first width n ≡ bytes
be_written width n bytes is as_many are =
    ap (λ w. bytes_high_first w n) (sym as_many) ∙ ap (bytes_high_first (length bytes)) is
    ∙ value_written bytes are

pub length_written : (k n : ℕ) → length (bytes_high_first k n) ≡ k
length_written zero n = refl
length_written (suc k) n = omega (arith, length_written k n)

pub written_value : (k n : ℕ) → n < 256 ^ k → value_of (bytes_high_first k n) ≡ n
written_value zero n fits = omega (arith, fits)
written_value (suc k) n fits =
    let split = div-add-mod' n (256 ^ k) in
    let small : n / 256 ^ k < 256 =
    (div-lt_iff_lt-mul (positive k)).1 (omega (arith, fits, pow-succ' 256 k)) in
    let below = mod-lt n (positive k) in
    let first : byte_at k n ≡ n / 256 ^ k = byte_is k n ∙ mod-eq_of_lt small in
    let others : bytes_high_first k n ≡ bytes_high_first k (n % 256 ^ k) =
    ap (bytes_high_first k) (sym split) ∙ lowest k (n / 256 ^ k) (n % 256 ^ k) in
    ap (λ b. b * 256 ^ length (bytes_high_first k n) + value_of (bytes_high_first k n)) first
    ∙ ap (λ w. n / 256 ^ k * 256 ^ w + value_of (bytes_high_first k n)) (length_written k n)
    ∙ ap (λ v. n / 256 ^ k * 256 ^ k + v) (ap value_of others
    ∙ written_value k (n % 256 ^ k) below)
    ∙ split
