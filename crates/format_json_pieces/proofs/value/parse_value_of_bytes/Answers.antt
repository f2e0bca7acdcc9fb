use Rattle.format_json_texts.specs.Values.{JsonText}
use Rattle.stream_sets.specs.Accumulator.Holds.{HasCharacters}
use Rattle.format_json_pieces.proofs.ResultsLemmas.{fault_told, invalid_utf8_is_told, text_told}
use Rattle.format_json_pieces.proofs.value.parse_value_of_bytes.Goals as goal

pub returns-in-Err-clause-text : goal.returns-in-Err-clause-text
returns-in-Err-clause-text g c =
    invalid_utf8_is_told (JsonText HasCharacters c.args.level) _ _ c.refused.ensures.whole
    c.in-Err.ensures.cases.0

pub returns-in-Ok-parse_value-clause-text : goal.returns-in-Ok-parse_value-clause-text
returns-in-Ok-parse_value-clause-text g c =
    text_told (JsonText HasCharacters c.args.level) _ _ c.in-Ok.ensures.cases.0 _
    c.in-Ok.ensures.cases.1 c.in-Ok-parse_value.ensures.text

pub returns-in-Err-parse_value-clause-text : goal.returns-in-Err-parse_value-clause-text
returns-in-Err-parse_value-clause-text g c =
    fault_told (JsonText HasCharacters c.args.level) _ _ c.in-Ok.ensures.cases.0 _ _
    c.in-Err-parse_value.ensures.text c.in_bytes.ensures.wants c.in_bytes.ensures.whole
