-- The text of a string compared with a name.
use Rattle.std.specs.Prelude.{◌≡◌, ◌==◌, if◌then◌else◌, ℕ, Bool, true, false, List, [], ◌∷◌, ◌++◌}
use Rattle.format_json_extents.specs.Unescaped.{Means}

-- the text of a reference token (RFC 6901, section 4): `~1` is a slash and `~0` a tilde. After a
-- tilde the flag is set.
abbrev pub token_text : Bool → List ℕ → List ℕ
token_text false [] = []
token_text false (b ∷ more) = if b == 126 then token_text true more else b ∷ token_text false more
token_text true [] = 126 ∷ []
token_text true (b ∷ more) = (if b == 49 then 47 else 126) ∷ token_text false more

-- the text of a name: itself, or that of a reference token
abbrev pub name_text : Bool → List ℕ → List ℕ
name_text true name = token_text false name
name_text false name = name

-- `Remains token whole meant same left`: if `same` holds, `whole` is `meant` followed by the text
-- of `left`. Otherwise `whole` does not start with `meant`.
pub record Remains (token : Bool) (whole meant : List ℕ) (same : Bool) (left : List ℕ)
    : Type 0 where
  pub yes : same ≡ true → whole ≡ meant ++ name_text token left
  pub no : same ≡ false → (more : List ℕ) → whole ≡ meant ++ more → ⊥

-- `IsEqualIf same whole meant`: `same` is whether `meant` is `whole`.
abbrev pub IsEqualIf : Bool → List ℕ → List ℕ → Type 0
IsEqualIf same whole meant = (same ≡ true → meant ≡ whole) × (same ≡ false → meant ≡ whole → ⊥)

-- `IsTailCompared same name bytes rest`: `bytes` has pieces, a quote and then `rest`, and `same` is
-- whether the pieces denote `name`.
pub record IsTailCompared (same : Bool) (name bytes rest : List ℕ) : Type 0 where
  pub text : List ℕ
  pub meant : List ℕ
  pub means : Means text meant
  pub splits : bytes ≡ text ++ 34 ∷ rest
  pub is_whole : IsEqualIf same name meant

-- `IsCompared same name bytes rest`: `bytes` starts with a string, followed by `rest`, and `same`
-- is whether the text of the string is `name`.
abbrev pub IsCompared : Bool → List ℕ → List ℕ → List ℕ → Type 0
IsCompared same name bytes rest =
    (inside : List ℕ) × (bytes ≡ 34 ∷ inside) × IsTailCompared same name inside rest
