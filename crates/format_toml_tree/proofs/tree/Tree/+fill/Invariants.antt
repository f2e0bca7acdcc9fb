use Rattle.std.proofs.Common.{◌*◌, ◌+◌}
use Rattle.format_toml_tree.specs.Runs.{FillsNames, FillsPlaces}
use Rattle.format_toml_tree.proofs.PartsLemmas.{LeftToFill}
use Rattle.format_toml_tree.proofs.tree.Tree.+fill.Given as goal

-- loop invariant: the elements from this one on remain
abbrev pub invariant-fill_elements-loop-part : goal.invariant-fill_elements-loop-part
invariant-fill_elements-loop-part g l =
    LeftToFill FillsPlaces l.initial.self.slots.items l.place l.parts l.part-index
    l.self.slots.items

-- loop invariant: the entries from this one on remain
abbrev pub invariant-fill_entries-loop-part : goal.invariant-fill_entries-loop-part
invariant-fill_entries-loop-part g l =
    LeftToFill FillsNames l.initial.self.slots.items l.place l.parts l.part-index
    l.self.slots.items

-- a value is deeper than its parts, and entries come before an entry, and that before its value
abbrev pub decreases-fill : goal.decreases-fill
decreases-fill g l = 3 * goal.size-fill g l

abbrev pub decreases-fill_elements : goal.decreases-fill_elements
decreases-fill_elements g l = 3 * goal.size-fill_elements g l + 1

abbrev pub decreases-fill_entries : goal.decreases-fill_entries
decreases-fill_entries g l = 3 * goal.size-fill_entries g l + 2

abbrev pub decreases-fill_entry : goal.decreases-fill_entry
decreases-fill_entry g l = 3 * goal.size-fill_entry g l + 1
