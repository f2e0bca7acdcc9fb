use Rattle.std.proofs.Common.{List, length, ◌≡◌, ◌++◌, ◌∷◌}
use Rattle.winnow_separated.specs.SeparatedFoldr1.{FoldsRight}
use Rattle.winnow_separated.proofs.combinator.impls.separated_foldr1.join_right.Given as goal

-- The links are those still to come, the separator with the element after it, and links that are
-- folded into that element.
abbrev pub invariant-links : goal.invariant-links
invariant-links g l =
    (last : g.row.O.Denot) × (done : List (g.row.D.Denot × g.row.O.Denot))
    × (l.fn.links.items ≡ l.links.items ++ (l.separator, last) ∷ done)
    × FoldsRight (goal.H-step g) l.fn.op last done l.right l.op
    × goal.H-IsAlwaysCallable g l.op

abbrev pub decreases-links : goal.decreases-links
decreases-links g l = length l.links.items
