use Rattle.format_json_extents.proofs.Written.Values.{values_written}
use Rattle.format_json_extents.proofs.laws.values_are_those_of_the_standard.Goals as goal

pub returns : goal.returns
returns g c = λ alloc level bytes utf8 few. values_written alloc level bytes utf8 few
