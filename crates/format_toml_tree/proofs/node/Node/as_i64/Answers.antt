use Rattle.std.proofs.Common.{subst, sym, rules}
use Rattle.format_toml_tree.specs.Nodes.{AnswersAs, as_none, as_other, as_some}
use Rattle.format_toml_tree.specs.declared.value.Value.TheVariants as values
use Rattle.format_toml_tree.proofs.node.Node.as_i64.Goals as goal

pub returns-in_err-value : goal.returns-in_err-value
returns-in_err-value g c =
    subst (λ r. AnswersAs (λ n. values.Integer n) c.args.self.now r) (sym c.from_residual.ensures)
    (as_none (λ n. values.Integer n) c.args.self.now c.in_err-value.ensures)

pub returns-in-Integer : goal.returns-in-Integer
returns-in-Integer g c =
    as_some (λ n. values.Integer n) c.args.self.now c.in_ok-value.value c.in_ok-value.ensures
    _ (search (rules, c.in-Integer.is))

pub returns-in_default : goal.returns-in_default
returns-in_default g c =
    as_other (λ n. values.Integer n) c.args.self.now c.in_ok-value.value c.in_ok-value.ensures
    c.in_default.not-Integer
