-- Of which characters floats are, and with which they begin.
use Rattle.std.specs.Prelude.{◌≡◌, ◌⊎◌, ◌≤◌, ℕ, List, [], ◌∷◌, ◌++◌, length}
use Rattle.std.proofs.Common.{refl, inl, inr, arith}
use Rattle.format_toml.specs.Floats.{IsFloat}
use Rattle.format_toml.specs.Floats.{Signed, Unsigned}
use Rattle.grammars.specs.Texts.{StartsWith}
use Rattle.format_toml.proofs.FloatCutsLemmas.{magnitude_first}
use Rattle.format_toml.specs.FloatFronts.{Are, float_all}

-- ---- what is first

-- a sign or a digit, or the first letter of `inf` or `nan`
abbrev pub IsNumeric : ℕ → Type 0
IsNumeric c = ((43 ≤ c) × (c ≤ 57)) ⊎ ((c ≡ 105) ⊎ (c ≡ 110))

unsigned_begins : (tokens rest : List ℕ) → Unsigned tokens → StartsWith IsNumeric (tokens ++ rest)
unsigned_begins tokens rest (inl e) = rw e (inr (inl refl))
unsigned_begins tokens rest (inr (inl e)) = rw e (inr (inr refl))
unsigned_begins tokens rest (inr (inr m)) =
    let (d, ys, range, e) = magnitude_first tokens m in rw e (inl (omega (arith, range)))

pub float_begins : (tokens rest : List ℕ) → IsFloat tokens → StartsWith IsNumeric (tokens ++ rest)
unfolding Signed
float_begins tokens rest (inl x) = unsigned_begins tokens rest x
float_begins tokens rest (inr (c, others, s, e, x)) = rw e (inl (omega (arith, s)))

pub float_are : (tokens : List ℕ) → IsFloat tokens → Are tokens
float_are tokens x = (float_all tokens x, some tokens (float_begins tokens [] x))
  where
    some : (l : List ℕ) → StartsWith IsNumeric (l ++ []) → 1 ≤ length l
    some [] never = absurd never
    some (c ∷ cs) is = omega arith
