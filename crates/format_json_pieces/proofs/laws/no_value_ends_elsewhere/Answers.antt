use Rattle.format_json_pieces.proofs.Extents.Values.{ends_there}
use Rattle.format_json_pieces.proofs.laws.no_value_ends_elsewhere.Goals as goal

pub returns : goal.returns
returns g c level = ends_there level
