-- Members of objects of JSON, as callers search them.
use Rattle.std.specs.Prelude.{◌==◌, ℕ, Bool, List, not}
use Rattle.format_json_extents.specs.Members.{IsSearchOf}
use Rattle.format_json_extents.specs.declared.members.Search.{Search}

-- whether a flag is not 0
abbrev pub is_set : ℕ → Bool
is_set flag = not (flag == 0)

-- `Searches search level name bytes`: a search for the member ends so, somewhere in `bytes`.
abbrev pub Searches : Search → ℕ → List ℕ → List ℕ → Type 0
Searches search level name bytes = (rest : List ℕ) × IsSearchOf search level name bytes rest
