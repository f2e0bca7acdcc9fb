-- Equality of outputs.
use Rattle.std.specs.Prelude.{◌≡◌, ℕ, List}
use Rattle.std.specs.Borrow.{Bor}

-- Settings of the same name and value.
abbrev pub SameSettings : Bor (List ℕ) × ℕ × Bor (List ℕ) → Bor (List ℕ) × ℕ × Bor (List ℕ)
    → Type 0
SameSettings x y = (x.0.now ≡ y.0.now) × (x.1 ≡ y.1) × (x.2.now ≡ y.2.now)
