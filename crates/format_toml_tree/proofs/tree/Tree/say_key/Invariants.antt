use Rattle.format_toml_tree.specs.Holds.{says_of}
use Rattle.format_toml_tree.proofs.KeysLemmas.{LeftToSay}
use Rattle.format_toml_tree.proofs.tree.Tree.say_key.Given as goal

-- the names from this one on are left to say
abbrev pub invariant-loop-i : goal.invariant-loop-i
invariant-loop-i g l =
    LeftToSay (says_of l.passes) (says_of l.role) l.initial.self.slots.items l.initial.table
    l.names l.i l.table l.self.slots.items
