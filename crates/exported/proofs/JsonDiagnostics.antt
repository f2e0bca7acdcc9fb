-- Lemmas about the codes of errors of JSON.
use Rattle.std.proofs.Common.{◌≡◌, ◌⊎◌, ℕ, arith}
use Rattle.exported.specs.Code.{incomplete, invalid, invalid_utf8, no_memory, too_deep}

-- the codes of errors
abbrev pub IsErrorCode : ℕ → Type 0
IsErrorCode code = (code ≡ invalid) ⊎ ((code ≡ incomplete) ⊎ ((code ≡ too_deep)
    ⊎ ((code ≡ invalid_utf8) ⊎ (code ≡ no_memory))))

pub not_done : (code : ℕ) → IsErrorCode code → code ≡ 0 → ⊥
not_done code is e = grind (arith, is, e)

pub not_depth : (code : ℕ) → IsErrorCode code → code ≡ 6 → ⊥
not_depth code is e = grind (arith, is, e)
