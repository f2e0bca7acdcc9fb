use Rattle.std.specs.Borrow.{Bor}
use Rattle.format_toml_tree.specs.declared.value.DateTime.{DateTime as DateTimeOf}
use Rattle.std.proofs.Common.{subst, sym}
use Rattle.format_toml_tree.specs.Nodes.{AnswersAs, as_none, as_other, as_some}
use Rattle.format_toml_tree.specs.declared.value.Value.TheVariants as values
use Rattle.format_toml_tree.proofs.node.Node.as_date_time.Goals as goal

pub returns-in_err-value : goal.returns-in_err-value
returns-in_err-value g c =
    subst (λ r. AnswersAs (λ (d : Bor (DateTimeOf _)). values.DateTime d.now) c.args.self.now r)
    (sym c.from_residual.ensures) (as_none _ _ c.in_err-value.ensures)

pub returns-in-DateTime : goal.returns-in-DateTime
returns-in-DateTime g c =
    as_some (λ (d : Bor (DateTimeOf _)). values.DateTime d.now) _ c.in_ok-value.value
    c.in_ok-value.ensures
    (record { ref_ptr = (0, 0); now = c.in-DateTime.date_time }) c.in-DateTime.is

pub returns-in_default : goal.returns-in_default
returns-in_default g c =
    as_other _ _ c.in_ok-value.value c.in_ok-value.ensures (λ d. c.in_default.not-DateTime d.now)
