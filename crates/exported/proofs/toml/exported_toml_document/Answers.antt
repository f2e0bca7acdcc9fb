use Rattle.exported.proofs.Nodes.{shows_document, wants_document}
use Rattle.exported.proofs.toml.exported_toml_document.Goals as goal

pub returns-in-Ok-clause-document : goal.returns-in-Ok-clause-document
returns-in-Ok-clause-document c is =
    shows_document c.args.max_depth c.args.bytes.now _ c.in-Ok.tree _ c.in-Ok.ensures.tree
    (c.write_tree.ensures.tree is)

pub returns-in-Ok-clause-small : goal.returns-in-Ok-clause-small
returns-in-Ok-clause-small c is = (
  wants_document c.args.max_depth c.args.bytes.now c.in-Ok.tree c.write_tree.new.out
      c.in-Ok.ensures.tree c.write_tree.ensures.sized,
  c.write_tree.ensures.small is,
)

pub returns-in-Ok-clause-sized : goal.returns-in-Ok-clause-sized
returns-in-Ok-clause-sized c is =
    wants_document c.args.max_depth c.args.bytes.now c.in-Ok.tree c.write_tree.new.out
    c.in-Ok.ensures.tree c.write_tree.ensures.sized
