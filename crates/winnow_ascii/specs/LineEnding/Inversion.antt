-- Lemmas for callers about one call of `line_ending`.
use Rattle.std.specs.Prelude.{◌≡◌, ℕ, List, [], ◌∷◌, ◌⊎◌}

-- a line feed, or one after a carriage return
abbrev pub IsLineEnd : List ℕ → Type 0
IsLineEnd codes = (codes ≡ 10 ∷ []) ⊎ (codes ≡ 13 ∷ 10 ∷ [])
