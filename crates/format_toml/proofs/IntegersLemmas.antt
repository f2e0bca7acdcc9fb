-- Integers, by their first character.
use Rattle.std.specs.Prelude.{◌≡◌, ◌<◌, ◌^◌, ℕ, ℤ, zero, suc, pos}
use Rattle.std.specs.Prelude.{neg_ℤ}
use Rattle.std.specs.Prelude.{FitsSigned, List, [], ◌∷◌, Option, Some, None, length}
use Rattle.std.specs.Int.{w64}
use Rattle.std.proofs.Common.{ap, inl, inr, arith}
use Rattle.format_toml.specs.Digits.{number_goes, true_false}
use Rattle.format_toml.specs.Numbers.{AfterZero, IntegerText}
use Rattle.format_toml.specs.Numbers.{IsIntegerOf, IsLone, IsNumber, NumberText, UnsignedText}
use Rattle.grammars.specs.Texts.{Text}
use Rattle.format_toml.proofs.DigitsLemmas.{no_cons}
use Rattle.format_toml.specs.Integers.{Sorted, sort, Reduces}

-- ---- the result

pub fits_pos : (m : ℕ) → FitsSigned w64 (pos m) → m < 2 ^ 64
fits_pos m fits = let small : m < 2 ^ 63 = fits.sfits in omega arith

pub fits_neg : (m : ℕ) → FitsSigned w64 (neg_ℤ (pos m)) → m < 2 ^ 64
fits_neg zero fits = omega arith
fits_neg (suc m) fits = let small : m < 2 ^ 63 = fits.sfits in omega arith

module _ {sign : ℕ → ℤ} {text : Text ℕ ℕ} {tail tokens : List ℕ}
    (small : (m : ℕ) → FitsSigned w64 (sign m) → m < 2 ^ 64)
    (reduces : Reduces sign text tail tokens) where
  pub no_number : IsNumber text tail None → IsIntegerOf tokens None
  unfolding IsNumber IsIntegerOf IntegerText
  no_number none n (x, fits) =
      let (m, is, e) = (reduces.same n).0 x in none m is (small m (rw e at fits))

pub nothing_there : (text : List ℕ) → length text ≡ 0 → IsIntegerOf text None
unfolding IsIntegerOf IntegerText UnsignedText
nothing_there (c ∷ cs) e n x = absurd (omega arith)
nothing_there [] e n (x, fits) = none n (sort n [] x)
  where
    none : (n : ℤ) → Sorted n [] → ⊥
    none n (inl (m, ys, (number, lone), f, g)) =
        true_false ((number_goes 10 (omega arith) m []).0 (rw f number)).0
    none n (inr (inl (m, ys, x, f, g))) = no_cons f
    none n (inr (inr (inl (m, ys, x, f, g)))) = no_cons f
    none n (inr (inr (inr (m, ys, x, f, g)))) = no_cons f

pub unsigned_by : {text : List ℕ} (result : Option ℕ) → IsLone text
    → IsNumber (NumberText 10) text result → IsNumber UnsignedText text result
unfolding IsNumber UnsignedText
unsigned_by None lone is = λ n x small. is n x.0 small
unsigned_by (Some n) lone (is, only) = ((is, lone), λ m x. only m x.0)

-- ---- after a zero

pub nothing_after : (text : List ℕ) → length text ≡ 0 → IsNumber AfterZero text None
unfolding IsNumber AfterZero
nothing_after text none m (l, b, ys, is, e, y) small =
    omega (arith, ap (λ l. length l) e)
