-- The kind of a value, and its contents.
use Rattle.std.specs.Prelude.{◌≡◌, ◌⊎◌, ◌+◌, ℕ, ℤ, List, [], ◌∷◌, ◌++◌, Option, Some, None}
use Rattle.std.specs.Prelude.{MatchOption, ok_or, slice_get, string_bytes}
use Rattle.std.specs.Int.{w64}
use Rattle.std.specs.List.{All}
use Rattle.std.specs.Str.Parse.{ParsesSigned, ParsesUnsigned}
use Rattle.std.specs.declared.string.String.{String}
use Rattle.std.specs.declared.vec.Vec.{Vec}
use Rattle.std.specs.Borrow.{Bor}
use Rattle.format_json_texts.specs.declared.value.Value.{Value}
use Rattle.format_json_texts.specs.declared.value.Value as values
use Rattle.format_json_texts.specs.declared.path.Step.{Step}
use Rattle.format_json_texts.specs.declared.path.Step.TheVariants as steps

module _ {A : Type 0} where
  -- Where the value is one of a kind, this is what it has; and where it is none, there is none.
  abbrev pub Has : {X Y : Type 0} → (X → Value A) → (X → Y → Type 0) → Value A → Option Y
      → Type 0
  Has {X} make shows v None = (x : X) → v ≡ make x → ⊥
  Has {X} make shows v (Some y) = (x : X) × (v ≡ make x) × shows x y

  -- a text that is lent
  abbrev pub ShowsText : String A → Bor (List ℕ) → Type 0
  ShowsText text shown = shown.now ≡ string_bytes text

  -- The integer that the text of a number is in base ten, if it fits; `None` if the value is not a
  -- number.
  abbrev pub IsInteger : Value A → Option ℤ → Type 0
  IsInteger v n =
      ((text : String A) × (v ≡ values.Number text)
      × ParsesSigned w64 10 (string_bytes text) (ok_or n text))
      ⊎ (((text : String A) → v ≡ values.Number text → ⊥) × (n ≡ None))

  abbrev pub IsNatural : Value A → Option ℕ → Type 0
  IsNatural v n =
      ((text : String A) × (v ≡ values.Number text)
      × ParsesUnsigned 64 10 (string_bytes text) (ok_or n text))
      ⊎ (((text : String A) → v ≡ values.Number text → ⊥) × (n ≡ None))

  -- the elements of an array; an empty list for any other value
  abbrev pub AreElements : Value A → List (Value A) → Type 0
  AreElements v items =
      ((list : Vec (Value A) A) × (v ≡ values.Array list) × (items ≡ list.items))
      ⊎ (((list : Vec (Value A) A) → v ≡ values.Array list → ⊥) × (items ≡ []))

  -- the members of an object; an empty list for any other value
  abbrev pub AreMembers : Value A → List (String A × Value A) → Type 0
  AreMembers v members =
      ((list : Vec (String A × Value A) A) × (v ≡ values.Object list) × (members ≡ list.items))
      ⊎ (((list : Vec (String A × Value A) A) → v ≡ values.Object list → ⊥) × (members ≡ []))

  abbrev pub IsNamed : List ℕ → String A × Value A → Type 0
  IsNamed name member = string_bytes member.0 ≡ name

  -- the value of the last member of this name, if one has it
  abbrev pub IsLastNamed : List ℕ → List (String A × Value A) → Option (Value A) → Type 0
  IsLastNamed name members None = All (λ m. IsNamed name m → ⊥) members
  IsLastNamed name members (Some v) =
      (before : List (String A × Value A)) × (member : String A × Value A)
      × (behind : List (String A × Value A)) × (members ≡ before ++ member ∷ behind)
      × IsNamed name member × (v ≡ member.1) × All (λ m. IsNamed name m → ⊥) behind

  -- the element at `index`, counted from 0
  abbrev pub IsAt : Value A → ℕ → Option (Value A) → Type 0
  IsAt v index found =
      (items : List (Value A)) × AreElements v items × (found ≡ slice_get items index)

  -- the value of the last member of a name
  abbrev pub IsGot : Value A → List ℕ → Option (Value A) → Type 0
  IsGot v name found =
      (members : List (String A × Value A)) × AreMembers v members
      × IsLastNamed name members found

  abbrev pub IsStep : Step → Value A → Option (Value A) → Type 0
  IsStep (steps.Name name) v found = IsGot v name.now found
  IsStep (steps.Place index) v found = IsAt v index found

  -- what is found along a path: nothing where one of its steps finds nothing
  abbrev pub IsFoundAlong : List Step → Value A → Option (Value A) → Type 0
  IsFoundAlong [] v found = found ≡ Some v
  IsFoundAlong (step ∷ path) v found =
      (next : Option (Value A)) × IsStep step v next
      × MatchOption next (found ≡ None) (λ w. IsFoundAlong path w found)
