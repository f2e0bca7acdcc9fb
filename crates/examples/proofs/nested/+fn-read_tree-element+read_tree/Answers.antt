use Rattle.std.proofs.Common.{refl, rules, arith}
use Rattle.examples.specs.Nested.Trees.{IsBranchOf}
use Rattle.examples.proofs.NestedLemmas.{node_is_branch, node_is_leaf}
use Rattle.winnow.specs.Read.{reads_meaning, reads_no_meaning}
use Rattle.examples.proofs.nested.+fn-read_tree-element+read_tree.Goals as goal

pub returns-then-not-opens : goal.returns-then-not-opens
returns-then-not-opens g t c =
    node_is_leaf c.args.level (c.opens.ensures.no (search rules)) c.read_leaf.ensures

pub returns-in-Ok : goal.returns-in-Ok
returns-in-Ok g t c =
    let (some, first) = c.opens.ensures.yes (search rules) in
    node_is_branch (omega (arith, some)) first
    (reads_meaning IsBranchOf c.in-Ok.ensures refl)

pub returns-in-Err : goal.returns-in-Err
returns-in-Err g t c =
    let (some, first) = c.opens.ensures.yes (search rules) in
    node_is_branch (omega (arith, some)) first
    (reads_no_meaning IsBranchOf c.in-Err.ensures)
