-- JSON values that successive calls return.
use Rattle.std.specs.Prelude.{◌≡◌, ℕ, List}
use Rattle.format_json_extents.specs.Walk.{IsNextValue, IsOfKind}
use Rattle.format_json_extents.specs.declared.walk.Kind.{Kind}
use Rattle.format_json_extents.specs.declared.walk.Kind.TheVariants as kinds
use Rattle.exported.specs.Span.{StandsAt, nowhere}
use Rattle.exported.specs.declared.json.JsonItem.{JsonItem}

-- the number of a type of values
abbrev pub number_of : Kind → ℕ
number_of kinds.Null = 0
number_of kinds.False = 1
number_of kinds.True = 2
number_of kinds.Number = 3
number_of kinds.String = 4
number_of kinds.Array = 5
number_of kinds.Object = 6

-- nothing
abbrev pub no_item : JsonItem
no_item = record { kind = number_of kinds.Null; span = nowhere }

-- `ShowsItem level input it`: after an optional separator, `input` has a value with the kind and
-- the span in `it`, the longest one there, followed by the rest.
pub record ShowsItem (level : ℕ) (input : List ℕ) (it : JsonItem) : Type 0 where
  pub text : List ℕ
  pub rest : List ℕ
  pub kind : Kind
  pub is_next : IsNextValue level text input rest
  pub is_kind : IsOfKind level kind text
  pub is_number : it.kind ≡ number_of kind
  pub place : StandsAt input it.span text rest
