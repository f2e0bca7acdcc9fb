use Rattle.std.specs.Int.{w64}
use Rattle.std.proofs.Common.{ap}
use Rattle.std.proofs.lemmas.Int.{to_z-of_z}
use Rattle.format_toml.specs.Plain.{IsAnswer}
use Rattle.format_toml_tree.specs.declared.value.Value as values
use Rattle.format_toml.proofs.PlainLemmas.{integer_told, other_told}
use Rattle.format_toml.proofs.plain.plain_value.Goals as goal

pub returns-in-Some : goal.returns-in-Some
unfolding IsAnswer
returns-in-Some g c =
    integer_told _ _ _ c.args.text.now c.in-Some.ensures
    (λ fits. ap (λ z. values.Integer z) (to_z-of_z w64 c.in-Some.number fits))

pub returns-in-None : goal.returns-in-None
returns-in-None g c = other_told _ c.args.text.now _ c.in-None.ensures c.other_value.ensures
