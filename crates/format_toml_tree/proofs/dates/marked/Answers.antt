use Rattle.std.proofs.Common.{arith, ap, sym, ◌∙◌}
use Rattle.std.specs.Prelude.{length}
use Rattle.format_toml_tree.specs.Dates.{Finds, Marked}
use Rattle.format_toml_tree.proofs.DateParts.{marked_by, same_first}
use Rattle.format_toml_tree.proofs.dates.marked.Goals as goal

pub returns-in_err-first : goal.returns-in_err-first
unfolding Finds Marked
returns-in_err-first c = rw c.from_residual.ensures (λ n rest (mid, e, x).
    absurd (omega (arith, ap (λ l. length l) e, c.in_err-first.ensures.cases)))

pub returns-then-first-mark : goal.returns-then-first-mark
unfolding Finds Marked
returns-then-first-mark c = λ n rest (mid, e, x).
    c.if-first-mark.true (same_first (sym c.in_ok-first.ensures.cases.0 ∙ e))

pub returns : goal.returns
returns c =
    marked_by _ _ _ _ c.in_ok-first.ensures.cases.0 c.if-first-mark.false _ c.two_digits.ensures
