-- Bytes are below 256.
use Rattle.std.proofs.Common.{◌≡◌, ◌<◌, ℕ, zero, suc, List, [], ◌∷◌, get_or, Fits, subst, w8, arith}
use Rattle.machines.specs.Languages.{AreBytes}

pub fits_low : (b : ℕ) → Fits w8 b → b < 256
fits_low b fits = omega arith

pub below : (bytes : List ℕ) → ((k : ℕ) → Fits w8 (get_or bytes k 0)) → AreBytes bytes
below [] fit = tt
below (b ∷ bytes) fit = (fits_low b (fit zero), below bytes (λ k. fit (suc k)))

pub first_below : (bytes rest : List ℕ) (b : ℕ) → bytes ≡ b ∷ rest
    → ((k : ℕ) → Fits w8 (get_or bytes k 0)) → b < 256
first_below bytes rest b e fit = (subst AreBytes e (below bytes fit)).0
