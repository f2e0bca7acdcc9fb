use Rattle.format_json_texts.specs.Values.{HasText}
use Rattle.winnow_grammar.specs.Read.{reads_no_meaning}
use Rattle.format_json_values.proofs.AlikeLemmas.{kept_text}
use Rattle.format_json_values.proofs.scalar.read_number_text.Goals as goal

pub returns-in-Ok : goal.returns-in-Ok
returns-in-Ok g c =
    kept_text c.from_str.result c.or_no_memory.result c.from_str.ensures.ok c.or_no_memory.ensures
    c.in-Ok.ensures.grammar

pub returns-in-Err : goal.returns-in-Err
returns-in-Err g c = reads_no_meaning HasText c.in-Err.ensures.grammar
