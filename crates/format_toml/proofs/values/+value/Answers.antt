use Rattle.std.proofs.Common.{refl, rules, arith}
use Rattle.format_toml.proofs.StatementsLemmas.{gathered_keeps, reads_kept, second_keeps}
use Rattle.format_toml.proofs.Nested.{value_array, value_inline, value_last, value_scalar}
use Rattle.format_toml.specs.Toml.{IsArray, IsInline}
use Rattle.format_toml.proofs.LineTexts.{value_of}
use Rattle.winnow_grammar.specs.Read.{reads_meaning, reads_no_meaning}
use Rattle.winnow_grammar.specs.Told.{text_told}
use Rattle.format_toml.proofs.values.+value.Goals as goal

pub read_array-returns-in-Ok-Some : goal.read_array-returns-in-Ok-Some
read_array-returns-in-Ok-Some g t c =
    reads_meaning IsArray (rw c.in-Ok-Some.field-0-is at c.in-Ok-Some.ensures) refl

pub read_array-returns-in-Ok-None : goal.read_array-returns-in-Ok-None
read_array-returns-in-Ok-None g t c =
    reads_meaning IsArray (rw c.in-Ok-None.field-0-is at c.in-Ok-None.ensures)
    (c.new.result, c.new.ensures.items, refl)

pub read_array-returns-in-Err : goal.read_array-returns-in-Err
read_array-returns-in-Err g t c = reads_no_meaning IsArray c.in-Err.ensures

pub read_inline-returns-in-Ok : goal.read_inline-returns-in-Ok
read_inline-returns-in-Ok g t c =
    reads_meaning IsInline
    (reads_kept (second_keeps (gathered_keeps _) _ _) c.exact.ensures c.in-Ok.ensures.reads) refl

pub read_inline-returns-in-Err : goal.read_inline-returns-in-Err
read_inline-returns-in-Err g t c = reads_no_meaning IsInline c.in-Err.ensures.reads

pub read_value-returns-then-level-eq0-clause-grammar :
    goal.read_value-returns-then-level-eq0-clause-grammar
read_value-returns-then-level-eq0-clause-grammar g t c =
    value_last c.args.level (omega (arith, c.if-level-eq0.true)) c.read_scalar.ensures

pub read_value-returns-then-level-eq0-clause-text :
    goal.read_value-returns-then-level-eq0-clause-text
read_value-returns-then-level-eq0-clause-text g t c =
    text_told (value_of c.args.level) (read_value-returns-then-level-eq0-clause-grammar g t c)

pub read_value-returns-then-begins_with-clause-grammar :
    goal.read_value-returns-then-begins_with-clause-grammar
read_value-returns-then-begins_with-clause-grammar g t c =
    value_array (omega (arith, c.if-level-eq0.false)) (c.begins_with.ensures.yes (search rules))
    c.read_array.ensures

pub read_value-returns-then-begins_with-clause-text :
    goal.read_value-returns-then-begins_with-clause-text
read_value-returns-then-begins_with-clause-text g t c =
    text_told (value_of c.args.level) (read_value-returns-then-begins_with-clause-grammar g t c)

pub read_value-returns-then-begins_with-2-clause-grammar :
    goal.read_value-returns-then-begins_with-2-clause-grammar
read_value-returns-then-begins_with-2-clause-grammar g t c =
    value_inline (omega (arith, c.if-level-eq0.false)) (c.begins_with.ensures.no (search rules))
    (c.begins_with-2.ensures.yes (search rules)) c.read_inline.ensures

pub read_value-returns-then-begins_with-2-clause-text :
    goal.read_value-returns-then-begins_with-2-clause-text
read_value-returns-then-begins_with-2-clause-text g t c =
    text_told (value_of c.args.level) (read_value-returns-then-begins_with-2-clause-grammar g t c)

pub read_value-returns-clause-grammar : goal.read_value-returns-clause-grammar
read_value-returns-clause-grammar g t c =
    value_scalar c.args.level (omega (arith, c.if-level-eq0.false))
    (c.begins_with.ensures.no (search rules)) (c.begins_with-2.ensures.no (search rules))
    c.read_scalar-2.ensures

pub read_value-returns-clause-text : goal.read_value-returns-clause-text
read_value-returns-clause-text g t c =
    text_told (value_of c.args.level) (read_value-returns-clause-grammar g t c)
