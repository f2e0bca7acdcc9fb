use Rattle.std.proofs.Common.{arith, sym}
use Rattle.std.proofs.lemmas.Bool.{eqb-false, eqb-true}
use Rattle.format_csv.proofs.Reading.{reads_none, reads_nothing, reads_record}
use Rattle.streams.specs.Input.{is_end_of_refl}
use Rattle.winnow_grammar.specs.Read.{reads_wanting}
use Rattle.format_csv.proofs.read_record.Goals as goal

pub returns-then-is_empty-clause-reads : goal.returns-then-is_empty-clause-reads
returns-then-is_empty-clause-reads g c =
    reads_nothing c.args.end c.args.input.now.now c.from_input.result c.from_input.ensures
    (eqb-true _ 0 (sym c.if-is_empty.ensures))

pub returns-in-Ok-clause-reads : goal.returns-in-Ok-clause-reads
returns-in-Ok-clause-reads g c =
    reads_record c.args.end c.args.input.now.now c.in-Ok.fields _ c.in-Ok.ensures
    (let some = eqb-false _ 0 (sym c.if-is_empty.ensures) in omega (arith, some))

pub returns-in-Err-Invalid-clause-reads : goal.returns-in-Err-Invalid-clause-reads
returns-in-Err-Invalid-clause-reads g c =
    reads_none c.args.end c.args.input.now.now _ c.from_input-in-Err-Invalid.ensures _
    (rw c.in-Err-Invalid.field-0-is at c.in-Err-Invalid.ensures)

pub returns-in-Err-OutOfMemory-clause-reads : goal.returns-in-Err-OutOfMemory-clause-reads
returns-in-Err-OutOfMemory-clause-reads g c = reads_wanting c.no_memory.ensures (is_end_of_refl _ _)
