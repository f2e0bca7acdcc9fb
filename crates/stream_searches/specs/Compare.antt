-- The result of a comparison.
use Rattle.std.specs.Prelude.{◌≡◌, ℕ, List, ◌∷◌, ◌++◌, length}
use Rattle.std.proofs.Common.{sym, ap, ◌∙◌}
use Rattle.stream_searches.specs.declared.compare.CompareResult.{CompareResult}
use Rattle.stream_searches.specs.declared.compare.CompareResult.TheVariants.{Ok, Incomplete, Error}

-- `StartsWithSpelling spelled tokens`: `tokens` starts with a list that the literal spells.
abbrev pub StartsWithSpelling : {T : Type 0} → (List T → Type 0) → List T → Type 0
StartsWithSpelling {T} spelled tokens =
    (front : List T) × (rest : List T) × spelled front × (tokens ≡ front ++ rest)

-- `IsShort spelled tokens`: `tokens` is a proper prefix of a list that the literal spells.
abbrev pub IsShort : {T : Type 0} → (List T → Type 0) → List T → Type 0
IsShort {T} spelled tokens = (x : T) × (more : List T) × spelled (tokens ++ x ∷ more)

-- The tokens start with the literal, of `n` units; or they are too short to decide; or they do not
-- start with it.
abbrev pub ComparesAs : {T : Type 0} → (List T → ℕ) → (List T → Type 0) → List T → CompareResult
    → Type 0
ComparesAs {T} units spelled tokens (Ok n) =
    (front : List T) × (rest : List T) × spelled front × (tokens ≡ front ++ rest)
    × (n ≡ units front)
ComparesAs units spelled tokens Incomplete =
    IsShort spelled tokens × (StartsWithSpelling spelled tokens → ⊥)
ComparesAs units spelled tokens Error =
    (IsShort spelled tokens → ⊥) × (StartsWithSpelling spelled tokens → ⊥)

-- two lists that are the same third list are of one length
pub same-length : {T : Type 0} {xs ys zs : List T} → xs ≡ zs → ys ≡ zs → length xs ≡ length ys
same-length {zs = zs} p q = ap (λ l. length l) (p ∙ sym q)
