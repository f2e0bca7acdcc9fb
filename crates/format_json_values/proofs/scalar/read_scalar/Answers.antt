use Rattle.std.proofs.Common.{rules}
use Rattle.format_json_values.specs.FirstOfScalar.{scalar_of}
use Rattle.winnow_grammar.specs.Told.{text_told}
use Rattle.format_json_values.proofs.FirstOfScalarLemmas.{scalar_number, scalar_string, scalar_word}
use Rattle.format_json_values.proofs.scalar.read_scalar.Goals as goal

pub returns-then-begins_with-clause-grammar : goal.returns-then-begins_with-clause-grammar
returns-then-begins_with-clause-grammar g c =
    scalar_string (c.begins_with.ensures.yes (search rules)) c.read_string_value.ensures

pub returns-then-begins_with-clause-text : goal.returns-then-begins_with-clause-text
returns-then-begins_with-clause-text g c =
    text_told scalar_of (returns-then-begins_with-clause-grammar g c)

pub returns-then-begins_number-clause-grammar : goal.returns-then-begins_number-clause-grammar
returns-then-begins_number-clause-grammar g c =
    scalar_number (c.begins_number.ensures.yes (search rules)) c.read_number_value.ensures

pub returns-then-begins_number-clause-text : goal.returns-then-begins_number-clause-text
returns-then-begins_number-clause-text g c =
    text_told scalar_of (returns-then-begins_number-clause-grammar g c)

pub returns-clause-grammar : goal.returns-clause-grammar
returns-clause-grammar g c =
    scalar_word (c.begins_with.ensures.no (search rules))
    (c.begins_number.ensures.no (search rules)) c.read_word_value.ensures

pub returns-clause-text : goal.returns-clause-text
returns-clause-text g c = text_told scalar_of (returns-clause-grammar g c)
