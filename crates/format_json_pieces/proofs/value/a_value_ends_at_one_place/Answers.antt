use Rattle.format_json_pieces.proofs.Passing.{value_one}
use Rattle.format_json_pieces.proofs.value.a_value_ends_at_one_place.Goals as goal

pub returns : goal.returns
returns g c = value_one
