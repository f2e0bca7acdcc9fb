use Rattle.exported.specs.Output.{slices_of}
use Rattle.exported.proofs.TomlFind.{SoFar}
use Rattle.exported.proofs.toml.find.find.Given as goal

-- the node along the names so far
abbrev pub invariant-loop-name : goal.invariant-loop-name
invariant-loop-name l = SoFar l.text l.nodes l.table (slices_of l.names) l.name-index l.at
