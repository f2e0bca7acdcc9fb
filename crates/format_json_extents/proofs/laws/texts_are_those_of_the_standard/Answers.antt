use Rattle.format_json_extents.proofs.Written.Values.{texts_written}
use Rattle.format_json_extents.proofs.laws.texts_are_those_of_the_standard.Goals as goal

pub returns : goal.returns
returns g c = λ alloc level bytes utf8 few. texts_written alloc level bytes utf8 few
