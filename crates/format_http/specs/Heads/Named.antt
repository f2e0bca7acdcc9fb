-- The fields of a name, in letters of either case (RFC 9110, section 5.1).
use Rattle.std.specs.Prelude.{◌≡◌, ◌++◌, ◌∷◌, ℕ, List, map}
use Rattle.std.specs.Char.{to_ascii_lowercase}
use Rattle.std.specs.List.{All}
use Rattle.format_http.specs.declared.heads.field_line.Field.{Field}

-- The two are the same in letters of either case.
abbrev pub IsNamed : List ℕ → List ℕ → Type 0
IsNamed name other = map to_ascii_lowercase other ≡ map to_ascii_lowercase name

-- No field has the name.
abbrev pub HasNo : List ℕ → List Field → Type 0
HasNo name = All (λ field. IsNamed name field.name.now → ⊥)

-- `IsNext name fields field behind`: `field` is the first field of this name, and `behind` are the
-- fields after it.
pub record IsNext (name : List ℕ) (fields : List Field) (field : Field) (behind : List Field)
    : Type 0 where
  pub before : List Field
  pub splits : fields ≡ before ++ field ∷ behind
  pub none_before : HasNo name before
  pub is_named : IsNamed name field.name.now
