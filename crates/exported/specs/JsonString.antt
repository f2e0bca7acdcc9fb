-- Texts of strings of JSON as callers see them.
use Rattle.std.specs.Prelude.{◌≡◌, ◌≤◌, ◌+◌, ℕ, List, ◌∷◌, ◌++◌, drop, length}
use Rattle.format_json_extents.specs.Unescaped.{Means}
use Rattle.exported.specs.declared.json.string.JsonText.{JsonText}

-- the text of nothing
abbrev pub no_text : JsonText
no_text = record { text = 0; length = 0 }

-- `IsText bytes found meant`: `bytes` starts with a string, `found.length` bytes long with its
-- quotes, whose text is `meant`.
pub record IsText (bytes : List ℕ) (found : JsonText) (meant : List ℕ) : Type 0 where
  pub text : List ℕ
  pub rest : List ℕ
  pub splits : bytes ≡ 34 ∷ (text ++ 34 ∷ rest)
  pub means : Means text meant
  pub counts : found.text ≡ length meant
  pub ends : found.length + length rest ≡ length bytes

-- The bytes begin with a string with such a text.
abbrev pub ShowsText : List ℕ → JsonText → Type 0
ShowsText bytes found = (meant : List ℕ) × IsText bytes found meant

-- `IsWritten bytes found old new`: the buffer starts with the text of the string; the rest of the
-- buffer is unchanged.
abbrev pub IsWritten : List ℕ → JsonText → List ℕ → List ℕ → Type 0
IsWritten bytes found old new =
    (meant : List ℕ) × IsText bytes found meant × (found.text ≤ length old)
    × (new ≡ meant ++ drop found.text old)
