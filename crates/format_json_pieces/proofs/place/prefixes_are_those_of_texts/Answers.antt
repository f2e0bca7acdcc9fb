use Rattle.format_json_pieces.proofs.Completions.Standard.{text_begins_so}
use Rattle.format_json_pieces.proofs.Passing.{text_begun}
use Rattle.format_json_pieces.proofs.place.prefixes_are_those_of_texts.Goals as goal

pub returns-clause-there : goal.returns-clause-there
returns-clause-there g c = λ alloc level. text_begins_so alloc level

pub returns-clause-back : goal.returns-clause-back
returns-clause-back g c = text_begun
