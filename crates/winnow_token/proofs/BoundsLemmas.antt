-- Numbers within a greatest number.
use Rattle.std.proofs.Common.{◌≡◌, ◌≤◌, ℕ, Option, Some, None, sym, subst, arith}
use Rattle.std.specs.Prelude.{unwrap_or}
use Rattle.stream_sets.specs.Range.{IsWithin}

pub within_some : {greatest : Option ℕ} {most n : ℕ} → greatest ≡ Some most → n ≤ most
    → IsWithin greatest n
within_some {n = n} is le = subst (λ g. IsWithin g n) (sym is) le

pub within_none : {greatest : Option ℕ} (n : ℕ) → greatest ≡ None → IsWithin greatest n
within_none n is = subst (λ g. IsWithin g n) (sym is) tt

-- a greatest number is not below the least
pub ascends : (greatest known : Option ℕ) (least n : ℕ) → greatest ≡ known
    → n ≡ unwrap_or greatest least → least ≤ n → IsWithin known least
ascends greatest known least n is value le =
    subst (λ g. IsWithin g least) is (by greatest (value))
  where
    by : (g : Option ℕ) → n ≡ unwrap_or g least → IsWithin g least
    by None e = tt
    by (Some most) e = omega (arith, le, e)
