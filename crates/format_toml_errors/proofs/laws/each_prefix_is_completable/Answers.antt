use Rattle.format_toml_errors.proofs.Endings.{completed}
use Rattle.format_toml_errors.proofs.laws.each_prefix_is_completable.Goals as goal

pub returns : goal.returns
returns c = λ level front may. completed level front may
