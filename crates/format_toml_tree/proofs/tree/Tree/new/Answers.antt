use Rattle.std.proofs.Common.{[], subst}
use Rattle.format_toml_tree.specs.Holds.{Pushes}
use Rattle.format_toml_tree.proofs.Lines.{starts_empty}
use Rattle.format_toml_tree.specs.declared.tree.Kind.TheVariants.{Header}
use Rattle.format_toml_tree.proofs.tree.Tree.new.Goals as goal

pub returns : goal.returns
returns g c =
    starts_empty _ _ (subst (λ l. Pushes l 0 [] Header c.in_ok-push.field-0
    c.push.new.self.slots.items) c.new.ensures.items c.in_ok-push.ensures)
