use Rattle.format_toml_tree.proofs.Lines.{LeftToAdd}
use Rattle.format_toml_tree.proofs.build.build.Given as goal

-- the lines from this one on are left to add
abbrev pub invariant-loop-line : goal.invariant-loop-line
invariant-loop-line g l = LeftToAdd l.level l.lines l.line l.table l.tree.slots.items
