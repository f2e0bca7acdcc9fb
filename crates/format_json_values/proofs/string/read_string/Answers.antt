use Rattle.std.proofs.Common.{refl}
use Rattle.format_json_texts.specs.Strings.{string_of}
use Rattle.winnow_grammar.specs.Read.{reads_by}
use Rattle.stream_sets.specs.Accumulator.Holds.{HasCharacters}
use Rattle.winnow_grammar.specs.Told.{text_told}
use Rattle.format_json_values.proofs.string.read_string.Goals as goal

pub returns-clause-grammar : goal.returns-clause-grammar
returns-clause-grammar g c = reads_by c.read_between.ensures.reads refl

pub returns-clause-text : goal.returns-clause-text
returns-clause-text g c = text_told (string_of HasCharacters) (returns-clause-grammar g c)
