-- Values that JSON pointers identify, as callers see them.
use Rattle.std.specs.Prelude.{◌≡◌, ℕ, List, ◌++◌}
use Rattle.format_json_extents.specs.Pointer.{IsLookup}
use Rattle.format_json_extents.specs.Walk.{IsOfKind}
use Rattle.format_json_extents.specs.declared.pointer.Lookup.{Lookup}
use Rattle.format_json_extents.specs.declared.pointer.Lookup.TheVariants as lookups
use Rattle.format_json_extents.specs.declared.walk.Kind.{Kind}
use Rattle.exported.specs.Code.{done, end}
use Rattle.exported.specs.Json.{number_of}
use Rattle.exported.specs.Span.{StandsAt}
use Rattle.exported.specs.declared.json.JsonItem.{JsonItem}

-- the code of the result of a search
abbrev pub code_of_lookup : Lookup → ℕ
code_of_lookup lookups.Found = done
code_of_lookup lookups.NoMember = end
code_of_lookup lookups.NoElement = end
code_of_lookup lookups.NotAContainer = end

-- `ShowsLookup level text pointer code it`: `code` is that of a search by the pointer. `it` has the
-- kind and the span of the value that was found, or of the innermost one that the pointer reaches.
pub record ShowsLookup (level : ℕ) (text pointer : List ℕ) (code : ℕ) (it : JsonItem) : Type 0
  where
    pub lookup : Lookup
    pub value : List ℕ
    pub rest : List ℕ
    pub depth : ℕ
    pub kind : Kind
    pub is_lookup : IsLookup lookup level text pointer (value ++ rest) rest
    pub is_code : code ≡ code_of_lookup lookup
    pub is_kind : IsOfKind depth kind value
    pub is_number : it.kind ≡ number_of kind
    pub place : StandsAt text it.span value rest
