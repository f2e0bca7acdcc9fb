use Rattle.std.proofs.Common.{subst, ◌∙◌}
use Rattle.format_toml_tree.specs.Holds.{FitResult}
use Rattle.format_toml_tree.proofs.Within.{line_added, line_deep, line_stopped}
use Rattle.format_toml_tree.proofs.KeysLemmas.{err_is}
use Rattle.format_toml_tree.proofs.tree.Tree.add_line.Goals as goal

pub returns-in_err-next : goal.returns-in_err-next
returns-in_err-next g c =
    rw (err_is c.from_residual.result _ c.from_residual.ensures)
    (line_stopped _ _ _ _ _ _ (c.len-from.ensures ∙ c.args.self.now.slots.ok.0) _
    c.in_err-next.ensures)

pub returns-then-fits : goal.returns-then-fits
returns-then-fits g c =
    let new = c.add.new.self.slots.items in
    line_added _ _ _ _ _ _ (c.len-from.ensures ∙ c.args.self.now.slots.ok.0) _
    c.in_ok-next.ensures
    (subst (λ b. FitResult c.args.level new c.len-from.result b) c.if-fits.true c.fits.ensures)

pub returns-else-fits : goal.returns-else-fits
returns-else-fits g c =
    let new = c.add.new.self.slots.items in
    line_deep _ _ _ _ _ _ (c.len-from.ensures ∙ c.args.self.now.slots.ok.0) _
    c.in_ok-next.ensures
    (subst (λ b. FitResult c.args.level new c.len-from.result b) c.if-fits.false c.fits.ensures)
