use Rattle.format_json_extents.proofs.Characters.{ascii_is_utf8, number_low}
use Rattle.format_json_extents.proofs.integer.as_i64.Goals as goal

pub returns-in-Err : goal.returns-in-Err
returns-in-Err c = λ is. absurd (c.in-Err.ensures.cases.0 (ascii_is_utf8 _ (number_low.each _ is)))
