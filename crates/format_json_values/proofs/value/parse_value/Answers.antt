use Rattle.format_json_texts.specs.Values.Texts.{json_of}
use Rattle.stream_sets.specs.Accumulator.Holds.{HasCharacters}
use Rattle.winnow_grammar.specs.Told.{texts_told}
use Rattle.format_json_values.proofs.value.parse_value.Goals as goal

pub returns-clause-grammar : goal.returns-clause-grammar
returns-clause-grammar g c = c.parse_spaced.ensures

pub returns-clause-text : goal.returns-clause-text
returns-clause-text g c =
    texts_told (json_of HasCharacters c.args.level) tt (returns-clause-grammar g c)
