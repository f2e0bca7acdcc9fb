use Rattle.format_json_pieces.proofs.ValueLemmas.{value_written}
use Rattle.format_json_pieces.proofs.value.values_are_those_of_the_standard.Goals as goal

pub returns : goal.returns
returns g c = value_written
