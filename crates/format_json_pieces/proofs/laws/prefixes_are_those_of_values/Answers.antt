use Rattle.format_json_pieces.proofs.Completions.Standard.{value_begins_so}
use Rattle.format_json_pieces.proofs.Passing.{value_begun}
use Rattle.format_json_pieces.proofs.laws.prefixes_are_those_of_values.Goals as goal

pub returns-clause-there : goal.returns-clause-there
returns-clause-there g c = λ alloc level. value_begins_so alloc level

pub returns-clause-back : goal.returns-clause-back
returns-clause-back g c = value_begun
