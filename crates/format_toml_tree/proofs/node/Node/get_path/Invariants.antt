use Rattle.std.proofs.Common.{Option, drop}
use Rattle.format_toml_tree.specs.Access.{FindsAlong}
use Rattle.format_toml_tree.specs.declared.node.Node.{Node}
use Rattle.format_toml_tree.proofs.node.Node.get_path.Given as goal

-- what is found along the names that are left is found along all of them
abbrev pub invariant-loop-name : goal.invariant-loop-name
invariant-loop-name g l =
    (found : Option (Node g.row.A.Denot)) → FindsAlong l.node (drop l.name-index l.names) found
    → FindsAlong l.self l.names found
