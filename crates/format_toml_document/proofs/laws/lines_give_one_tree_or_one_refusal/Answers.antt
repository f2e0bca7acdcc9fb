use Rattle.format_toml_tree.specs.Once.{gives_once}
use Rattle.format_toml_document.proofs.laws.lines_give_one_tree_or_one_refusal.Goals as goal

pub returns : goal.returns
returns g c = λ level lines one other is has. gives_once is has
