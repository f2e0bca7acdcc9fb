-- The fields of a name among the offsets of the fields of a head.
use Rattle.std.specs.Prelude.{◌≡◌, ◌≤◌, ◌-◌, ◌++◌, ◌∷◌, ℕ, List, length, take, drop}
use Rattle.std.specs.List.{All}
use Rattle.format_http.specs.Heads.Named.{IsNamed}
use Rattle.format_http_places.specs.declared.places.Field.{Field}
use Rattle.format_http_places.specs.declared.places.Span.{Span}

-- `NameAt bytes name place`: the span `place` is within `bytes`, and holds `name`, in letters of
-- either case.
abbrev pub NameAt : List ℕ → List ℕ → Span → Type 0
NameAt bytes name place =
    (place.offset ≤ length bytes) × (place.length ≤ length bytes - place.offset)
    × IsNamed name (take place.length (drop place.offset bytes))

-- No field has the name.
abbrev pub HasNo : List ℕ → List ℕ → List Field → Type 0
HasNo bytes name = All (λ field. NameAt bytes name field.name → ⊥)

-- `IsFirst bytes name fields index`: the field at `index` is the first of this name.
pub record IsFirst (bytes name : List ℕ) (fields : List Field) (index : ℕ) : Type 0 where
  pub before : List Field
  pub field : Field
  pub behind : List Field
  pub splits : fields ≡ before ++ field ∷ behind
  pub at : index ≡ length before
  pub none_before : HasNo bytes name before
  pub is_named : NameAt bytes name field.name
