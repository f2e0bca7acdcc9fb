-- Slices that are read as text.
use Rattle.std.specs.Prelude.{◌≡◌, ◌⊎◌, ℕ, List, Option, Some, None, Result, Ok, Err}
use Rattle.std.specs.Str.{IsUtf8}

-- Text is parsed as the value that the type gives for it, or as `None` if the type rejects it.
abbrev pub ParsesAs : {R E : Type 0} → (List ℕ → Result R E → Type 0) → List ℕ → Option R → Type 0
ParsesAs gives text (Some value) = gives text (Ok value)
ParsesAs {R} {E} gives text None = (e : E) × gives text (Err e)

-- Bytes are parsed as the text that they encode, or as `None` if they are not UTF-8.
abbrev pub ReadsBytes : {R E : Type 0} → (List ℕ → Result R E → Type 0) → List ℕ → Option R
    → Type 0
ReadsBytes gives bytes result =
    (IsUtf8 bytes × ParsesAs gives bytes result) ⊎ ((¬ (IsUtf8 bytes)) × (result ≡ None))
