use Rattle.std.proofs.Common.{of_calls, rules, ◌∷◌, append_assoc}
use Rattle.winnow_separated.proofs.combinator.impls.separated_foldr1.join_right.Goals as goal

pub links-preserved : goal.links-preserved
links-preserved g c =
    let inv = c.links.invariant in (
      c.in-Some-pop.left,
      (c.links.separator, inv.0) ∷ inv.1,
      search (rules, append_assoc),
      (c.links.right, c.links.op, inv.3, search rules depth 1),
      search of_calls,
    )
