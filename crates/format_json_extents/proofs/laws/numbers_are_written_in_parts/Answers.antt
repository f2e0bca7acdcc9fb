use Rattle.format_json_extents.proofs.Parts.{number_parts, parts_number}
use Rattle.format_json_extents.proofs.laws.numbers_are_written_in_parts.Goals as goal

pub returns : goal.returns
returns c = λ text. (number_parts text, parts_number text)
