use Rattle.std.proofs.Common.{ap, arith, inl, inr, length, refl}
use Rattle.format_csv_records.proofs.Finding.{grew_trans, grew_refl, same_error, ok_is_not_err}
use Rattle.format_csv_records.specs.declared.error.ReadError.TheVariants.{OutOfMemory}
use Rattle.format_csv_records.proofs.mark.fill_to.Goals as goal

pub loop-count-init : goal.loop-count-init
loop-count-init g c = grew_refl _ _

pub returns-then-held-count-clause-grew : goal.returns-then-held-count-clause-grew
returns-then-held-count-clause-grew g c = c.loop-count.invariant

pub returns-then-held-count-clause-told : goal.returns-then-held-count-clause-told
returns-then-held-count-clause-told g c =
    inl (omega (arith, c.if-held-count.true, ap (λ l. length l) c.held.ensures))

pub returns-then-more-eq0-clause-grew : goal.returns-then-more-eq0-clause-grew
returns-then-more-eq0-clause-grew g c =
    grew_trans _ _ _ _ _ _ c.loop-count.invariant c.in-Ok.ensures.grew

pub returns-then-more-eq0-clause-told : goal.returns-then-more-eq0-clause-told
returns-then-more-eq0-clause-told g c = inr (c.in-Ok.ensures.told.1 c.if-more-eq0.true)

pub loop-count-smaller : goal.loop-count-smaller
loop-count-smaller g c =
    omega (arith, c.in-Ok.ensures.told.0, c.in-Ok.ensures.few, c.if-more-eq0.false)

pub loop-count-preserved : goal.loop-count-preserved
loop-count-preserved g c = grew_trans _ _ _ _ _ _ c.loop-count.invariant c.in-Ok.ensures.grew

pub returns-in-Err-clause-grew : goal.returns-in-Err-clause-grew
returns-in-Err-clause-grew g c =
    grew_trans _ _ _ _ _ _ c.loop-count.invariant c.in-Err.ensures.grew

pub returns-in-Err-clause-told : goal.returns-in-Err-clause-told
returns-in-Err-clause-told g c = c.in-Err.ensures.told.0

pub returns-then-held-count-clause-full : goal.returns-then-held-count-clause-full
returns-then-held-count-clause-full g c = λ e. ok_is_not_err e

pub returns-then-more-eq0-clause-full : goal.returns-then-more-eq0-clause-full
returns-then-more-eq0-clause-full g c = λ e. ok_is_not_err e

pub returns-in-Err-clause-full : goal.returns-in-Err-clause-full
returns-in-Err-clause-full g c = λ e.
    same_error _ _ c.in-Err.error OutOfMemory refl refl e c.in-Err.ensures.full
