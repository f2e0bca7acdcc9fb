-- Tests of bytes that compute.
use Rattle.std.proofs.Common.{◌≡◌, ◌↔◌, IsTrue, ◌&&◌, ◌||◌, ℕ, Bool, true, false, not, leb}
use Rattle.std.proofs.Common.{eqb, arith}
use Rattle.std.proofs.lemmas.Bool.Decides.{nat_tests}
use Rattle.format_http.specs.Heads.Bytes.{IsTokenByte, IsValueByte, IsVisible}

abbrev pub between : ℕ → ℕ → ℕ → Bool
between first last b = leb first b && leb b last

abbrev pub is_visible : ℕ → Bool
is_visible b = between 33 126 b

abbrev pub is_value : ℕ → Bool
is_value b = (leb 32 b && not (eqb b 127)) || eqb b 9

abbrev pub is_token : ℕ → Bool
is_token b = between 48 57 b || (between 65 90 b || (between 94 122 b || (eqb b 33
    || (between 35 39 b || (between 42 43 b || (between 45 46 b || (eqb b 124 || eqb b 126)))))))

pub visible_is : (b : ℕ) → is_visible b ≡ true → IsVisible b
visible_is b e = grind (arith, nat_tests)

pub value_is : (b : ℕ) → is_value b ≡ true → IsValueByte b
value_is b e = grind (arith, nat_tests)

pub token_is : (b : ℕ) → is_token b ≡ true → IsTokenByte b
token_is b e = grind (arith, nat_tests)

pub visible_not : (b : ℕ) → is_visible b ≡ false → IsVisible b → ⊥
visible_not b e is = grind (arith, nat_tests)

pub value_not : (b : ℕ) → is_value b ≡ false → IsValueByte b → ⊥
value_not b e is = grind (arith, nat_tests)

pub token_not : (b : ℕ) → is_token b ≡ false → IsTokenByte b → ⊥
token_not b e is = grind (arith, nat_tests)

pub token_tells : (b : ℕ) (told : Bool) → told ≡ is_token b → IsTrue told ↔ IsTokenByte b
token_tells b told e = grind (arith, nat_tests)
