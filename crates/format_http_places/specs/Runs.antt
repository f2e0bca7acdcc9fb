-- Runs of bytes of one class at the start of the input.
use Rattle.std.specs.Prelude.{◌≤◌, ◌<◌, ◌==◌, ℕ, List, [], ◌∷◌, length, take, drop}
use Rattle.std.specs.Prelude.{if◌then◌else◌, ⊤}
use Rattle.std.specs.Int.{trailing_zeros, w64}
use Rattle.std.specs.List.{All}

-- There is no byte, or the first is none of these.
abbrev pub NotFirst : (ℕ → Type 0) → List ℕ → Type 0
NotFirst these [] = ⊤
NotFirst these (b ∷ bs) = these b → ⊥

-- The first `n` bytes satisfy `these`.
abbrev pub FirstAre : (ℕ → Type 0) → List ℕ → ℕ → Type 0
FirstAre these bytes n = (n ≤ length bytes) × All these (take n bytes)

-- The longest prefix of bytes that satisfy `these` has length `n`.
abbrev pub SoMany : (ℕ → Type 0) → List ℕ → ℕ → Type 0
SoMany these bytes n = FirstAre these bytes n × NotFirst these (drop n bytes)

-- Likewise for the first 16 bytes.
abbrev pub SoManyOf16 : (ℕ → Type 0) → List ℕ → ℕ → Type 0
SoManyOf16 these bytes n =
    (n ≤ 16) × FirstAre these bytes n × (n < 16 → NotFirst these (drop n bytes))

-- the place of the lowest bit that is set, or 16
abbrev pub first_set : ℕ → ℕ
first_set mask = if mask == 0 then 16 else trailing_zeros w64 mask
