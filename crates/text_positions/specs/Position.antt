-- Lines and columns of a text.
use Rattle.std.specs.Prelude.{◌≡◌, ◌+◌, ℕ, List, [], ◌∷◌, ◌++◌, length}
use Rattle.std.specs.List.{All, flat_map}

-- A character that ends no line.
abbrev pub IsWithinLine : ℕ → Type 0
IsWithinLine c = c ≡ 10 → ⊥

-- a line, and the line feed that ends it
abbrev pub ended : List ℕ → List ℕ
ended line = line ++ 10 ∷ []

-- The position after the characters `before` has this line and this column, both counted from 1. It
-- follows complete lines, each with its line feed, and then the start of its own line.
pub record IsPosition (before : List ℕ) (line column : ℕ) : Type 0 where
  pub lines : List (List ℕ)
  pub begun : List ℕ
  pub splits : before ≡ flat_map ended lines ++ begun
  pub are_lines : All (All IsWithinLine) lines
  pub is_one : All IsWithinLine begun
  pub line_is : line ≡ length lines + 1
  pub column_is : column ≡ length begun + 1
