use Rattle.std.proofs.Common.{◌-◌, ◌<◌, ℕ, length}
use Rattle.format_toml_nodes.specs.Find.{AreAt}
use Rattle.format_toml_nodes.proofs.Finding.{SoFar}
use Rattle.format_toml_tree.specs.Paths.{Path}
use Rattle.format_toml_nodes.proofs.find.find_entry.Given as goal

-- the entries before this one have other names
abbrev pub invariant-loop-last : goal.invariant-loop-last
invariant-loop-last l = (path : ℕ → Path) (are : AreAt l.text l.nodes path)
    (within : l.table < length l.nodes) → SoFar are l.table within l.name l.last l.at

abbrev pub decreases-loop-last : goal.decreases-loop-last
decreases-loop-last l = length l.nodes - l.last
