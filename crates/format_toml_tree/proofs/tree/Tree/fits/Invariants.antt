use Rattle.format_toml_tree.proofs.Within.{Fitting}
use Rattle.format_toml_tree.proofs.tree.Tree.fits.Given as goal

-- the slots before this one fit
abbrev pub invariant-loop-i : goal.invariant-loop-i
invariant-loop-i g l = Fitting l.level l.self.slots.items l.from l.i
