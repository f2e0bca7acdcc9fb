use Rattle.std.specs.Prelude.{List, [], Err, Ok}
use Rattle.std.proofs.Common.{ap, subst, ◌∙◌}
use Rattle.format_toml_document.specs.contracts.read.from_text.{A-type}
use Rattle.format_toml_document.proofs.ErrorResults.{lines_told}
use Rattle.format_toml_document.proofs.read.from_text.Goals as goal
use Rattle.format_toml_tree.specs.Holds.{HoldsTree}
use Rattle.format_toml_tree.specs.Runs.{Gives, IsWithin, Tree as Given, empty}
use Rattle.format_toml_tree.specs.declared.value.Item.{Item}

pub returns-in-Ok-build-clause-tree : goal.returns-in-Ok-build-clause-tree
returns-in-Ok-build-clause-tree g c =
    let P : List (Item (A-type g.row.A)) → Type 0 = λ l.
    (given : Given (A-type g.row.A)) × Gives c.args.level (empty, []) 0 l (Ok given)
    × HoldsTree c.in-Ok-build.tree.slots.items given × IsWithin c.args.level given in (
      c.in-Ok.lines,
      c.in-Ok.ensures.stands,
      subst P c.as_slice.ensures.value c.in-Ok-build.ensures.accepted,
    )

pub returns-in-Err-build-clause-fault : goal.returns-in-Err-build-clause-fault
returns-in-Err-build-clause-fault g c =
    lines_told (A-type g.row.A) c.args.level c.args.text.now c.in-Ok.lines
    c.in-Err-build.fault c.fault_of_build.result c.in-Ok.ensures.stands
    (λ n why is.
    let P : List (Item (A-type g.row.A)) → Type 0 = λ l.
    Gives c.args.level (empty, []) 0 l (Err (n, why)) in
    subst P c.as_slice.ensures.value
    (c.build.ensures.refused n why (c.in-Err-build.is ∙ ap (λ fault. Err fault) is)))
    c.fault_of_build.ensures
