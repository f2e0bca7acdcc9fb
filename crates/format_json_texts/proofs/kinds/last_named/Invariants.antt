use Rattle.std.proofs.Common.{◌≡◌, ◌++◌, List, String, length}
use Rattle.std.specs.List.{All}
use Rattle.format_json_texts.specs.Kinds.{IsNamed}
use Rattle.format_json_texts.specs.declared.value.Value.{Value}
use Rattle.format_json_texts.proofs.kinds.last_named.Given as goal

abbrev pub invariant-members : goal.invariant-members
invariant-members g l =
    (behind : List (String g.row.A.Denot × Value g.row.A.Denot)) × (l.members ≡ l.left ++ behind)
    × All (λ m. IsNamed l.name m → ⊥) behind

abbrev pub decreases-members : goal.decreases-members
decreases-members g l = length l.left
