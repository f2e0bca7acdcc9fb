use Rattle.stream_sets.specs.Accumulator.Holds.{HasCharacters}
use Rattle.format_json_texts.specs.Values.Texts.{json_of}
use Rattle.format_json_texts.proofs.laws.nested_values_are_those_of_the_standard.Goals as goal

pub returns : goal.returns
returns g c = json_of HasCharacters
