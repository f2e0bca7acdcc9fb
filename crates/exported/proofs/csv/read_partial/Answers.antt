use Rattle.std.proofs.Common.{arith}
use Rattle.exported.proofs.Records.{nothing_may, refused_may, shown_for_good, some_may, wanted}
use Rattle.exported.proofs.csv.read_partial.Goals as goal

pub returns-then-size-clause-record : goal.returns-then-size-clause-record
returns-then-size-clause-record c is = shown_for_good c.args.dialect c.args.bytes.now
    c.in-Ok-Some.size c.write_record.new.out c.write_record.ensures.sized c.if-size.true _ _
    (c.write_record.ensures.record is)

pub returns-then-size-clause-small : goal.returns-then-size-clause-small
returns-then-size-clause-small c is = wanted c.args.dialect c.args.bytes.now c.in-Ok-Some.size
    c.write_record.new.out c.write_record.ensures.sized c.if-size.true
    (rw c.in-Ok-Some.field-0-is at c.in-Ok-Some.ensures)

pub returns-else-size-clause-incomplete : goal.returns-else-size-clause-incomplete
returns-else-size-clause-incomplete c _ = some_may c.args.dialect c.args.bytes.now
    c.in-Ok-Some.size (rw c.in-Ok-Some.field-0-is at c.in-Ok-Some.ensures) c.if-size.false

pub returns-in-Ok-None-clause-incomplete : goal.returns-in-Ok-None-clause-incomplete
returns-in-Ok-None-clause-incomplete c _ = nothing_may c.args.dialect c.args.bytes.now
    (rw c.in-Ok-None.field-0-is at c.in-Ok-None.ensures)

pub returns-then-fault-bytes-clause-incomplete : goal.returns-then-fault-bytes-clause-incomplete
returns-then-fault-bytes-clause-incomplete c _ = refused_may c.args.dialect c.args.bytes.now
    c.requires c.in-Err.fault c.in-Err.ensures (omega (arith, c.if-fault-bytes.true))
