-- Searches of the input.
use Rattle.std.specs.Prelude.{◌≡◌, ◌≤◌, ◌+◌, ℕ, List, ◌++◌, Option, MatchOption}
use Rattle.std.specs.declared.ops.Range.{Range}

-- `Occurs sought tokens front found rest`: `tokens` is `front`, the needle `found`, and `rest`.
pub record Occurs {T : Type 0} (sought : List T → Type 0)
    (tokens front found rest : List T) : Type 0 where
  pub splits : tokens ≡ front ++ (found ++ rest)
  pub is : sought found

-- `IsFirstMatch units sought tokens start end`: a needle extends from `start` to `end`, in units,
-- and none begins at a lesser offset.
pub record IsFirstMatch {T : Type 0} (units : List T → ℕ) (sought : List T → Type 0)
    (tokens : List T) (start end : ℕ) : Type 0 where
  pub front : List T
  pub found : List T
  pub rest : List T
  pub stands : Occurs sought tokens front found rest
  pub starts : start ≡ units front
  pub ends : end ≡ units front + units found
  pub least : (other hit behind : List T) → Occurs sought tokens other hit behind
      → start ≤ units other

-- The range of the first match, or `None` if no needle occurs.
abbrev pub FindsSlice : {T : Type 0} → (List T → ℕ) → (List T → Type 0) → List T
    → Option (Range ℕ) → Type 0
FindsSlice {T} units sought tokens found = MatchOption found
    ((front hit rest : List T) → Occurs sought tokens front hit rest → ⊥)
    (λ range. IsFirstMatch units sought tokens range.start range.end)
