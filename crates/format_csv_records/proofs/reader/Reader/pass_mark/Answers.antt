use Rattle.std.proofs.Common.{arith, refl}
use Rattle.format_csv_records.proofs.Finding.{mark_long, reads_none, reads_nothing, reads_some}
use Rattle.format_csv_records.proofs.Finding.{same_error, ok_is_not_err}
use Rattle.format_csv_records.specs.declared.error.ReadError.TheVariants.{OutOfMemory}
use Rattle.format_csv_records.proofs.reader.Reader.pass_mark.Goals as goal

pub invariant_of-self : goal.invariant_of-self
invariant_of-self g c = c.new-self-inside.ensures _ _

pub consume-requires : goal.consume-requires
consume-requires g c = mark_long _ _ _ c.held.ensures c.in-Some.ensures

pub invariant_of-self-in-Some : goal.invariant_of-self-in-Some
invariant_of-self-in-Some g c = c.new-self-inside.ensures _ _

pub invariant_of-self-in-Err : goal.invariant_of-self-in-Err
invariant_of-self-in-Err g c = c.new-self-inside.ensures _ _

pub returns-in-None-clause-reads : goal.returns-in-None-clause-reads
returns-in-None-clause-reads g c =
    rw (← c.self.view_is)
    (reads_none _ _ _ _ _ c.in-Ok.ensures.grew _ c.held.ensures c.in-None.ensures
    c.in-Ok.ensures.told (omega arith))

pub returns-in-Some-clause-reads : goal.returns-in-Some-clause-reads
returns-in-Some-clause-reads g c =
    rw (← c.self.view_is)
    (reads_some _ _ _ _ _ c.in-Ok.ensures.grew _ _ _ _ c.held.ensures c.in-Some.ensures
    c.consume.ensures.bytes (omega (arith, c.saturating_add-self-inside.ensures)))

pub returns-in-Err-clause-reads : goal.returns-in-Err-clause-reads
returns-in-Err-clause-reads g c =
    rw (← c.self.view_is)
    (reads_nothing _ _ _ _ _ c.in-Err.ensures.grew _ c.in-Err.ensures.told (omega arith))

pub returns-in-None-clause-full : goal.returns-in-None-clause-full
returns-in-None-clause-full g c = λ e. ok_is_not_err e

pub returns-in-Some-clause-full : goal.returns-in-Some-clause-full
returns-in-Some-clause-full g c = λ e. ok_is_not_err e

pub returns-in-Err-clause-full : goal.returns-in-Err-clause-full
returns-in-Err-clause-full g c = λ e.
    same_error _ _ c.in-Err.error OutOfMemory refl refl e c.in-Err.ensures.full
