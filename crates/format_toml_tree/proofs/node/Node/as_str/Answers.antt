use Rattle.std.proofs.Common.{subst, sym}
use Rattle.format_toml_tree.specs.Nodes.{AnswersText, as_none, as_other, as_some}
use Rattle.format_toml_tree.specs.declared.value.Value.TheVariants as values
use Rattle.format_toml_tree.proofs.node.Node.as_str.Goals as goal

pub returns-in_err-value : goal.returns-in_err-value
returns-in_err-value g c =
    subst (λ r. AnswersText c.args.self.now r) (sym c.from_residual.ensures) (as_none _ _
    c.in_err-value.ensures)

pub returns-in-Text : goal.returns-in-Text
returns-in-Text g c = (
  c.in-Text.text,
  c.as_str.ensures.value,
  as_some (λ t. values.Text t) _ c.in_ok-value.value c.in_ok-value.ensures c.in-Text.text
      c.in-Text.is,
)

pub returns-in_default : goal.returns-in_default
returns-in_default g c =
    as_other _ _ c.in_ok-value.value c.in_ok-value.ensures c.in_default.not-Text
