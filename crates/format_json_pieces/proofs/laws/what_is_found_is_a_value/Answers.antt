use Rattle.format_json_pieces.proofs.Completions.Standard.{found_by_standard}
use Rattle.format_json_pieces.proofs.laws.what_is_found_is_a_value.Goals as goal

pub returns : goal.returns
returns g c = λ alloc level. found_by_standard alloc level
