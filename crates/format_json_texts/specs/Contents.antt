-- The contents of a value, independent of where its strings and lists are stored.
use Rattle.std.specs.Prelude.{ℕ, Bool, List, [], ◌∷◌, map, string_bytes}
use Rattle.std.specs.declared.string.String.{String}
use Rattle.format_json_texts.specs.declared.value.Value.{Value, fold-Value}
use Rattle.format_json_texts.specs.declared.value.Value.TheOpen.{Value-F}

mutual
  pub data Content : Type 0 where
    null : Content
    boolean : Bool → Content
    number : List ℕ → Content
    text : List ℕ → Content
    array : Items → Content
    object : Members → Content

  pub data Items : Type 0 where
    no_items : Items
    item : Content → Items → Items

  pub data Members : Type 0 where
    no_members : Members
    member : List ℕ → Content → Members → Members

abbrev pub items_of : List Content → Items
items_of [] = no_items
items_of (c ∷ cs) = item c (items_of cs)

module _ {A : Type 0} where
  abbrev pub members_of : List (String A × Content) → Members
  members_of [] = no_members
  members_of (m ∷ ms) = member (string_bytes m.0) m.1 (members_of ms)

  -- one level, where what the values inside say is known
  abbrev pub content_step : Value-F A Content → Content
  content_step Value-F.Null = null
  content_step (Value-F.Boolean b) = boolean b
  content_step (Value-F.Number s) = number (string_bytes s)
  content_step (Value-F.Text s) = text (string_bytes s)
  content_step (Value-F.Array v) = array (items_of v.items)
  content_step (Value-F.Object v) = object (members_of v.items)

  abbrev pub content : Value A → Content
  content = fold-Value A Content content_step

  abbrev pub items_content : List (Value A) → Items
  items_content vs = items_of (map content vs)

  abbrev pub members_content : List (String A × Value A) → Members
  members_content ms = members_of (map (λ m. (m.0, content m.1)) ms)
