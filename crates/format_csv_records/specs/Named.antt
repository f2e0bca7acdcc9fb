-- Columns of a header by their names.
use Rattle.std.specs.Prelude.{◌≡◌, ◌⊎◌, ◌<◌, ℕ, List, Option, Some, None}
use Rattle.format_csv_records.specs.Records.{field_at}

-- No field is this.
abbrev pub NoneNamed : List (List ℕ) → List ℕ → Type 0
NoneNamed fields name = (k : ℕ) → field_at fields k ≡ Some name → ⊥

-- `NamedAt fields name place`: `place` is the index of the first field equal to `name`.
abbrev pub NamedAt : List (List ℕ) → List ℕ → ℕ → Type 0
NamedAt fields name place = (field_at fields place ≡ Some name)
    × ((k : ℕ) → k < place → field_at fields k ≡ Some name → ⊥)

-- The place of the first field that is this, if there is one.
abbrev pub FirstNamed : List (List ℕ) → List ℕ → Option ℕ → Type 0
FirstNamed fields name None = NoneNamed fields name
FirstNamed fields name (Some place) = NamedAt fields name place

-- The field of a record under the first column of this name, if there are both.
abbrev pub FieldNamed : List (List ℕ) → List (List ℕ) → List ℕ → Option (List ℕ) → Type 0
FieldNamed header fields name field = (NoneNamed header name × (field ≡ None))
    ⊎ ((place : ℕ) × NamedAt header name place × (field ≡ field_at fields place))
