use Rattle.stream_sets.specs.Accumulator.Holds.{HasCharacters}
use Rattle.format_json_texts.specs.Strings.{string_of}
use Rattle.format_json_texts.proofs.laws.strings_are_those_of_the_standard.Goals as goal

pub returns : goal.returns
returns g c = string_of HasCharacters
