use Rattle.std.proofs.Common.{ap, arith, inl, inr, refl}
use Rattle.format_csv_records.proofs.Telling.{all_of_reads, answer_taken, failed, reads}
use Rattle.format_csv_records.proofs.Finding.{same_error}
use Rattle.format_csv_records.specs.declared.error.ReadError.TheVariants.{OutOfMemory}
use Rattle.format_csv_records.proofs.reader.Reader.next_record.Goals as goal

pub find-requires : goal.find-requires
find-requires g c = c.self.invariant

pub take_record-requires : goal.take_record-requires
take_record-requires g c = c.in-Ok-Enough.ensures.of

pub invariant_of-self : goal.invariant_of-self
invariant_of-self g c = c.take_record.ensures.of

pub invariant_of-self-in-Ok-Never : goal.invariant_of-self-in-Ok-Never
invariant_of-self-in-Ok-Never g c = c.in-Ok-Never.ensures.of

pub invariant_of-self-in-Err : goal.invariant_of-self-in-Err
invariant_of-self-in-Err g c = c.in-Err.ensures.of

pub returns-in-Ok-Enough-clause-reads : goal.returns-in-Ok-Enough-clause-reads
returns-in-Ok-Enough-clause-reads g c =
    rw (← c.self.view_is)
    (reads _ _ _ _ _ _ _ _ _ c.in-Ok-Enough.ensures.grew
    (rw c.take_record.ensures.size c.in-Ok-Enough.ensures.small) _ _ _
    (answer_taken _ _ _ _ _ _ _
    (rw c.in-Ok-Enough.field-0-is at c.in-Ok-Enough.ensures.found) c.take_record.ensures.told)
    c.take_record.ensures.moved)

pub returns-in-Ok-Enough-clause-of_all : goal.returns-in-Ok-Enough-clause-of_all
returns-in-Ok-Enough-clause-of_all g c =
    all_of_reads _ _ _ _ _ _ _ _ _ _ _ (returns-in-Ok-Enough-clause-reads g c)

pub returns-in-Ok-Enough-clause-same : goal.returns-in-Ok-Enough-clause-same
returns-in-Ok-Enough-clause-same g c = ap (λ t. t.dialect) c.self.view_is

pub returns-in-Ok-Never-clause-reads : goal.returns-in-Ok-Never-clause-reads
returns-in-Ok-Never-clause-reads g c =
    let (refusal, never) = rw c.in-Ok-Never.field-0-is at c.in-Ok-Never.ensures.found in
    rw (← c.self.view_is)
    (reads _ _ _ _ _ _ _ _ _ c.in-Ok-Never.ensures.grew c.in-Ok-Never.ensures.small _ _ _
    ((_, refusal, c.fault_at.ensures, inl never), refl, c.clear.ensures.fields) (omega arith))

pub returns-in-Ok-Never-clause-of_all : goal.returns-in-Ok-Never-clause-of_all
returns-in-Ok-Never-clause-of_all g c =
    all_of_reads _ _ _ _ _ _ _ _ _ _ _ (returns-in-Ok-Never-clause-reads g c)

pub returns-in-Ok-Never-clause-same : goal.returns-in-Ok-Never-clause-same
returns-in-Ok-Never-clause-same g c = ap (λ t. t.dialect) c.self.view_is

pub returns-in-Err-clause-reads : goal.returns-in-Err-clause-reads
returns-in-Err-clause-reads g c =
    rw (← c.self.view_is)
    (reads _ _ _ _ _ _ _ _ _ c.in-Err.ensures.grew c.in-Err.ensures.small _ _ _
    (failed _ _ _ _ _ _ c.in-Err.ensures.found.0 c.in-Err.ensures.found.1 c.clear.ensures.fields)
    (omega arith))

pub returns-in-Err-clause-of_all : goal.returns-in-Err-clause-of_all
returns-in-Err-clause-of_all g c =
    all_of_reads _ _ _ _ _ _ _ _ _ _ _ (returns-in-Err-clause-reads g c)

pub returns-in-Err-clause-same : goal.returns-in-Err-clause-same
returns-in-Err-clause-same g c = ap (λ t. t.dialect) c.self.view_is

pub returns-in-Ok-Enough-clause-full : goal.returns-in-Ok-Enough-clause-full
returns-in-Ok-Enough-clause-full g c = λ e.
    inr (c.take_record.ensures.full e)

pub returns-in-Ok-Never-clause-full : goal.returns-in-Ok-Never-clause-full
returns-in-Ok-Never-clause-full g c = λ e. absurd (cc)

pub returns-in-Err-clause-full : goal.returns-in-Err-clause-full
returns-in-Err-clause-full g c = λ e.
    inl (same_error _ _ c.in-Err.error OutOfMemory refl refl e c.in-Err.ensures.full)
