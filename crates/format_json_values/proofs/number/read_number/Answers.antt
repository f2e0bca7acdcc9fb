use Rattle.format_json_texts.specs.Number.{number_of}
use Rattle.format_json_values.specs.Numbers.{number_same}
use Rattle.winnow_core.specs.Exact.Same.{reads_as}
use Rattle.winnow_grammar.specs.Told.{text_told}
use Rattle.format_json_values.proofs.number.read_number.Goals as goal

pub returns-clause-grammar : goal.returns-clause-grammar
returns-clause-grammar c = reads_as number_same c.number.ensures.reads

pub returns-clause-text : goal.returns-clause-text
returns-clause-text c = text_told number_of (reads_as number_same c.number.ensures.reads)

pub returns-clause-spared : goal.returns-clause-spared
returns-clause-spared c = c.number.ensures.spared
