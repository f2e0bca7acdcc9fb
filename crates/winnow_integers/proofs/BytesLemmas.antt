-- Bytes that are passed one by one, and three that are turned.
use Rattle.std.specs.Prelude.{◌≡◌, ℕ, List, [], ◌∷◌, length, reverse, slice_index}
use Rattle.std.proofs.Common.{refl, arith}

-- the last of three bytes first
pub turned_three : (bytes : List ℕ) → length bytes ≡ 3
    → slice_index bytes 2 ∷ slice_index bytes 1 ∷ slice_index bytes 0 ∷ [] ≡ reverse bytes
turned_three [] e = absurd (omega (arith, e))
turned_three (a ∷ []) e = absurd (omega (arith, e))
turned_three (a ∷ b ∷ []) e = absurd (omega (arith, e))
turned_three (a ∷ b ∷ c ∷ []) e = refl
turned_three (a ∷ b ∷ c ∷ d ∷ bytes) e = absurd (omega (arith, e))
