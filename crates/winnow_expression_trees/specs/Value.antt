-- The values of trees.
use Rattle.std.specs.Prelude.{◌≡◌, Ok}
use Rattle.streams.specs.Input.{Input}
use Rattle.winnow_expression.specs.Grammar.{Grammar}
use Rattle.winnow_expression.specs.Operators.{fold_of}
use Rattle.winnow_expression_trees.specs.Tree.{Tree, leaf, before, behind, between}

-- The value of a tree: at each operator its fold of the operands' values.
abbrev pub Value : {S W T V F G H : Type 0} → Grammar S W T V F G H → Tree V F G H → V → Type 0
Value g (leaf w) v = v ≡ w
Value {T = T} {V = V} g (before p f r) v =
    (w : V) × Value g r w × (i : Input T) × (j : Input T) × g.folding.before f i w (Ok v) j
Value {T = T} {V = V} g (behind p f l) v =
    (w : V) × Value g l w × (i : Input T) × (j : Input T) × g.behind f i w (Ok v) j
Value {T = T} {V = V} g (between o l r) v =
    (w : V) × (x : V) × Value g l w × Value g r x × (i : Input T) × (j : Input T)
    × g.folding.between (fold_of o) i w x (Ok v) j
