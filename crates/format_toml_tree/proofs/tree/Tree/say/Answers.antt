use Rattle.format_toml_tree.specs.Holds.{says_of}
use Rattle.format_toml_tree.proofs.Opened.{say_done, say_refused, told_stop}
use Rattle.format_toml_tree.proofs.KeysLemmas.{err_is}
use Rattle.format_toml_tree.proofs.tree.Tree.say.Goals as goal

pub returns-in_err-place : goal.returns-in_err-place
returns-in_err-place g c tree path holds =
    let old = c.args.self.now.slots.items in
    rw (err_is c.from_residual.result _ c.from_residual.ensures) (told_stop old _ path _ _ (λ why e.
    say_refused (says_of c.args.role) (tree, path c.args.table) c.args.name.now _
    (c.in_err-place.ensures tree path holds why e)))

pub open-requires : goal.open-requires
open-requires g c =
    let (tree, path, holds, within) = c.requires in
    let (node, rule, goes) = c.in_ok-place.ensures tree path holds in
    goes.within

pub returns : goal.returns
returns g c tree path holds =
    let (node, rule, goes) = c.in_ok-place.ensures tree path holds in
    say_done _ _ _ _ _ _ _ rule goes (c.in_ok-open.ensures _ goes.paths goes.holds)
