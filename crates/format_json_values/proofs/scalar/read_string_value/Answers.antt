use Rattle.std.proofs.Common.{refl}
use Rattle.format_json_texts.specs.Values.{IsString}
use Rattle.winnow_grammar.specs.Read.{reads_meaning, reads_no_meaning}
use Rattle.format_json_values.proofs.scalar.read_string_value.Goals as goal

pub returns-in-Ok : goal.returns-in-Ok
returns-in-Ok g c = reads_meaning IsString c.in-Ok.ensures.grammar refl

pub returns-in-Err : goal.returns-in-Err
returns-in-Err g c = reads_no_meaning IsString c.in-Err.ensures.grammar
