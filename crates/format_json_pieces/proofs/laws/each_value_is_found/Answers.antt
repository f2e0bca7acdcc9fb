use Rattle.format_json_pieces.proofs.Extents.Values.{value_found}
use Rattle.format_json_pieces.proofs.laws.each_value_is_found.Goals as goal

pub returns : goal.returns
returns g c level = value_found level
