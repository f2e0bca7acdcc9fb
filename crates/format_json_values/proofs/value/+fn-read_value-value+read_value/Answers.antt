use Rattle.std.proofs.Common.{refl, rules, arith}
use Rattle.format_json_texts.specs.Values.{IsArray, IsObject}
use Rattle.format_json_texts.specs.Values.Texts.{value_of}
use Rattle.winnow_grammar.specs.Read.{reads_meaning, reads_no_meaning}
use Rattle.stream_sets.specs.Accumulator.Holds.{HasCharacters}
use Rattle.winnow_grammar.specs.Told.{text_told}
use Rattle.format_json_values.proofs.FirstLemmas.{value_array, value_object, value_scalar}
use Rattle.format_json_values.proofs.value.+fn-read_value-value+read_value.Goals as goal

pub returns-then-not-opens-clause-grammar : goal.returns-then-not-opens-clause-grammar
returns-then-not-opens-clause-grammar g t c =
    value_scalar c.args.level (c.opens.ensures.no (search rules)) c.read_scalar.ensures.grammar

pub returns-then-not-opens-clause-text : goal.returns-then-not-opens-clause-text
returns-then-not-opens-clause-text g t c =
    text_told (value_of HasCharacters c.args.level) (returns-then-not-opens-clause-grammar g t c)

pub returns-in-Ok-clause-grammar : goal.returns-in-Ok-clause-grammar
returns-in-Ok-clause-grammar g t c =
    let (some, first) = c.opens.ensures.yes (search rules) in
    value_array (omega (arith, some)) (c.begins_array.ensures.yes (search rules))
    (reads_meaning IsArray c.in-Ok.ensures.reads refl)

pub returns-in-Ok-clause-text : goal.returns-in-Ok-clause-text
returns-in-Ok-clause-text g t c =
    text_told (value_of HasCharacters c.args.level) (returns-in-Ok-clause-grammar g t c)

pub returns-in-Err-clause-grammar : goal.returns-in-Err-clause-grammar
returns-in-Err-clause-grammar g t c =
    let (some, first) = c.opens.ensures.yes (search rules) in
    value_array (omega (arith, some)) (c.begins_array.ensures.yes (search rules))
    (reads_no_meaning IsArray c.in-Err.ensures.reads)

pub returns-in-Err-clause-text : goal.returns-in-Err-clause-text
returns-in-Err-clause-text g t c =
    text_told (value_of HasCharacters c.args.level) (returns-in-Err-clause-grammar g t c)

pub returns-in-Ok-read_object_of-clause-grammar : goal.returns-in-Ok-read_object_of-clause-grammar
returns-in-Ok-read_object_of-clause-grammar g t c =
    let (some, first) = c.opens.ensures.yes (search rules) in
    value_object (omega (arith, some)) first (c.begins_array.ensures.no (search rules))
    (reads_meaning IsObject c.in-Ok-read_object_of.ensures.reads refl)

pub returns-in-Ok-read_object_of-clause-text : goal.returns-in-Ok-read_object_of-clause-text
returns-in-Ok-read_object_of-clause-text g t c =
    text_told (value_of HasCharacters c.args.level)
    (returns-in-Ok-read_object_of-clause-grammar g t c)

pub returns-in-Err-read_object_of-clause-grammar :
    goal.returns-in-Err-read_object_of-clause-grammar
returns-in-Err-read_object_of-clause-grammar g t c =
    let (some, first) = c.opens.ensures.yes (search rules) in
    value_object (omega (arith, some)) first (c.begins_array.ensures.no (search rules))
    (reads_no_meaning IsObject c.in-Err-read_object_of.ensures.reads)

pub returns-in-Err-read_object_of-clause-text : goal.returns-in-Err-read_object_of-clause-text
returns-in-Err-read_object_of-clause-text g t c =
    text_told (value_of HasCharacters c.args.level)
    (returns-in-Err-read_object_of-clause-grammar g t c)
