use Rattle.std.proofs.lemmas.List.{nil_from_length}
use Rattle.format_toml_tree.specs.Dates.{FoundResult, MaybeOffset}
use Rattle.format_toml_tree.proofs.times.offset.Goals as goal

pub returns-in_default : goal.returns-in_default
unfolding FoundResult MaybeOffset
returns-in_default c = nil_from_length c.args.text.now c.in_default.ensures.cases
