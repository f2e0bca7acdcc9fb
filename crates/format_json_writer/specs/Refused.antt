-- Why a value is not written.
use Rattle.std.specs.Prelude.{◌≡◌, ◌⊎◌, ⊤, ℕ, zero, suc, List, Contains}
use Rattle.std.specs.List.{All}
use Rattle.std.specs.Str.{chars}
use Rattle.std.specs.declared.string.String.{String}
use Rattle.std.specs.declared.vec.Vec.{Vec}
use Rattle.format_json_texts.specs.Number.{NumberText}
use Rattle.format_parts.specs.Words.{Slice}
use Rattle.format_json_texts.specs.Values.{ValueText}
use Rattle.format_json_texts.specs.declared.value.Value.{Value}
use Rattle.format_json_texts.specs.declared.value.Value as values
use Rattle.format_json_writer.specs.declared.error.WriteError.{WriteError}
use Rattle.format_json_writer.specs.declared.error.WriteError.TheVariants as errors
use Rattle.stream_sets.specs.Accumulator.Holds.{HasCharacters}

-- the text is not a number, or memory allocation failed
abbrev pub IsNoNumber : List ℕ → WriteError → Type 0
IsNoNumber text e =
    (e ≡ errors.Memory)
    ⊎ ((e ≡ errors.Number) × ((slice : Slice) → NumberText slice (chars text) → ⊥))

module _ {A : Type 0} where
  -- the arrays and objects of the value are nested at most this deep
  unfoldable pub Nests : ℕ → Value A → Type 0
  Nests zero v =
      ((items : Vec (Value A) A) → v ≡ values.Array items → ⊥)
      × ((members : Vec (String A × Value A) A) → v ≡ values.Object members → ⊥)
  Nests (suc level) v =
      ((items : Vec (Value A) A) → v ≡ values.Array items → All (Nests level) items.items)
      × ((members : Vec (String A × Value A) A) → v ≡ values.Object members
      → All (λ m. Nests level m.1) members.items)

  -- the value has no encoding of the level by RFC 8259
  abbrev pub HasNoText : ℕ → Value A → Type 0
  HasNoText level v = (tokens : List ℕ) → ValueText HasCharacters level v tokens → ⊥

  -- why the value is not written: a number in it is invalid, so it has no encoding of any level; it
  -- is nested deeper than the level; or memory allocation failed
  abbrev pub IsRefused : ℕ → Value A → WriteError → Type 0
  IsRefused level v errors.Number = (above : ℕ) → HasNoText above v
  IsRefused level v errors.Level = Nests level v → ⊥
  IsRefused level v errors.Memory = ⊤

  -- memory allocation failed, or one of these values is not written
  abbrev pub IsRefusedAmong : {O : Type 0} → (O → Value A) → ℕ → List O → WriteError → Type 0
  IsRefusedAmong {O} value level os e =
      (e ≡ errors.Memory) ⊎ ((o : O) × Contains os o × IsRefused level (value o) e)
