use Rattle.std.proofs.Common.{None, Some, arith, subst, sym}
use Rattle.format_toml_tree.specs.Access.{FindsAlong, along_all, along_none, along_step}
use Rattle.format_toml_tree.proofs.node.Node.get_path.Goals as goal

pub returns-in_err-node : goal.returns-in_err-node
returns-in_err-node g c =
    subst (λ r. FindsAlong c.args.self.now c.args.names.now r) (sym c.from_residual.ensures)
    (c.loop-name.invariant None (along_none c.args.names.now c.loop-name.name-index
    c.loop-name.node _ (omega arith) c.in_err-node.ensures))

pub loop-name-preserved : goal.loop-name-preserved
loop-name-preserved g c found more =
    c.loop-name.invariant found (along_step c.args.names.now c.loop-name.name-index
    c.loop-name.node _ (omega arith) c.in_ok-node.node found c.in_ok-node.ensures more)

pub returns : goal.returns
returns g c =
    c.loop-name.invariant (Some c.loop-name.node) (along_all c.args.names.now
    c.loop-name.name-index c.loop-name.node (omega arith))
