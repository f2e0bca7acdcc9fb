use Rattle.format_json_texts.specs.Number.{number_of}
use Rattle.format_json_texts.proofs.laws.numbers_are_those_of_the_standard.Goals as goal

pub returns : goal.returns
returns c = number_of
