-- Members of an object by their name.
use Rattle.std.specs.Prelude.{◌≡◌, ◌⊎◌, ℕ, Bool, true, false, List, ◌∷◌, ◌++◌}
use Rattle.format_json_extents.specs.Names.{IsCompared}
use Rattle.format_json_extents.specs.Strings.{IsString}
use Rattle.format_json_extents.specs.Texts.{IsByte, NoMatchAtStart, Then}
use Rattle.format_json_extents.specs.Value.{IsValue, opening_bracket}
use Rattle.format_json_extents.specs.Walk.{EndsItems, IsNextValue, IsSeparator}
use Rattle.format_json_extents.specs.declared.members.Search.{Search}
use Rattle.format_json_extents.specs.declared.members.Search.TheVariants as searches

-- `HasName same name bytes rest`: after an optional separator, `bytes` has a string, followed by
-- `rest`, and `same` is whether its text is `name`.
pub record HasName (same : Bool) (name bytes rest : List ℕ) : Type 0 where
  pub lead : List ℕ
  pub start : List ℕ
  pub is_lead : IsSeparator lead
  pub splits : bytes ≡ lead ++ start
  pub is_compared : IsCompared same name start rest

-- `PassesMembers level name bytes rest`: `bytes` starts with members of other names, each a name
-- and a value, followed by `rest`.
pub data PassesMembers (level : ℕ) (name : List ℕ) : List ℕ → List ℕ → Type 0 where
  passes_none : (bytes rest : List ℕ) → bytes ≡ rest → PassesMembers level name bytes rest
  passes_one : (bytes after value next rest : List ℕ) → HasName false name bytes after
      → IsNextValue level value after next → PassesMembers level name next rest
      → PassesMembers level name bytes rest

-- `NoMember level name bytes`: after an optional separator, `bytes` does not start with a string;
-- or the string is another name, and no value follows it.
abbrev pub NoMember : ℕ → List ℕ → List ℕ → Type 0
NoMember level name bytes =
    NoMatchAtStart (Then IsSeparator IsString) bytes
    ⊎ ((after : List ℕ) × HasName false name bytes after
    × NoMatchAtStart (Then IsSeparator (IsValue level)) after)

-- `IsSearched search level name inside rest`: the result of a search in the members `inside`.
-- `rest` follows the name that was found, or it follows the last member, or no member starts there.
abbrev pub IsSearched : Search → ℕ → List ℕ → List ℕ → List ℕ → Type 0
IsSearched searches.Found level name inside rest =
    (mid : List ℕ) × PassesMembers level name inside mid × HasName true name mid rest
IsSearched searches.Missing level name inside rest =
    PassesMembers level name inside rest × EndsItems rest
IsSearched searches.Invalid level name inside rest =
    PassesMembers level name inside rest × (EndsItems rest → ⊥) × NoMember level name rest

-- `InObject bytes inside`: after an optional separator, `bytes` has an opening brace, followed by
-- `inside`.
abbrev pub InObject : List ℕ → List ℕ → Type 0
InObject bytes inside =
    (lead : List ℕ) × IsSeparator lead × (bytes ≡ lead ++ opening_bracket true ∷ inside)

-- an opening brace
abbrev pub IsBrace : ℕ → Type 0
IsBrace b = b ≡ opening_bracket true

-- `IsSearchOf search level name bytes rest`: the same in the object that `bytes` starts with. If
-- there is none, the search is invalid, and `rest` is `bytes`.
abbrev pub IsSearchOf : Search → ℕ → List ℕ → List ℕ → List ℕ → Type 0
IsSearchOf search level name bytes rest =
    ((inside : List ℕ) × InObject bytes inside × IsSearched search level name inside rest)
    ⊎ ((search ≡ searches.Invalid) × (rest ≡ bytes)
    × NoMatchAtStart (Then IsSeparator (IsByte IsBrace)) bytes)
