-- Sets of bytes as tables.
use Rattle.std.specs.Prelude.{◌<◌, ◌↔◌, ℕ, Bool, IsTrue}

-- Of the 256 bytes a set has those of P, and no others.
abbrev pub HasExactly : (ℕ → Type 0) → (ℕ → Bool) → Type 0
HasExactly P has = (b : ℕ) → b < 256 → IsTrue (has b) ↔ P b

-- `TellsByte P b answer`: `answer` is whether the byte `b` is in `P`
abbrev pub TellsByte : (ℕ → Type 0) → ℕ → Bool → Type 0
TellsByte P b answer = (b < 256) × (IsTrue answer ↔ P b)
