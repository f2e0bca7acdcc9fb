use Rattle.format_json_texts.specs.Values.{IsWord}
use Rattle.winnow_grammar.specs.Read.{reads_meaning, reads_no_meaning}
use Rattle.format_json_values.proofs.scalar.read_word_value.Goals as goal

pub returns-in-Ok : goal.returns-in-Ok
returns-in-Ok g c = reads_meaning IsWord c.in-Ok.ensures c.word_value.ensures

pub returns-in-Err : goal.returns-in-Err
returns-in-Err g c = reads_no_meaning IsWord c.in-Err.ensures
