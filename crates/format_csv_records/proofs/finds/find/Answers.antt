use Rattle.std.proofs.Common.{◌∙◌, arith, inr, refl, sym}
use Rattle.format_csv_records.proofs.Finding.{found_over, grew_trans, grew_refl}
use Rattle.format_csv_records.proofs.Finding.{state_on_more_bytes, state_on_same_bytes, small_more}
use Rattle.format_csv_records.proofs.Finding.{small_none, same_error, ok_is_not_err}
use Rattle.format_csv_records.specs.declared.error.ReadError.TheVariants.{OutOfMemory}
use Rattle.format_csv_records.proofs.finds.find.Goals as goal

pub loop-found-init : goal.loop-found-init
loop-found-init g c = record {
  of = c.requires;
  grew = grew_refl _ _;
  small = small_none _ _ _;
}

pub look-requires : goal.look-requires
look-requires g c = rw c.held.ensures c.loop-found.invariant.of

pub returns-in-Some-clause-of : goal.returns-in-Some-clause-of
returns-in-Some-clause-of g c = state_on_same_bytes _ _ _ _ c.held.ensures c.in-Some.ensures.kept

pub returns-in-Some-clause-grew : goal.returns-in-Some-clause-grew
returns-in-Some-clause-grew g c = c.loop-found.invariant.grew

pub returns-in-Some-clause-found : goal.returns-in-Some-clause-found
returns-in-Some-clause-found g c = found_over _ _ _ _ _ c.held.ensures c.in-Some.ensures.found

pub returns-in-Some-clause-small : goal.returns-in-Some-clause-small
returns-in-Some-clause-small g c = c.loop-found.invariant.small

pub returns-then-count-eq0-clause-of : goal.returns-then-count-eq0-clause-of
returns-then-count-eq0-clause-of g c =
    state_on_more_bytes _ _ _ _ _ _ c.held.ensures c.in-None.ensures.kept c.in-Ok.ensures.grew.grew

pub returns-then-count-eq0-clause-grew : goal.returns-then-count-eq0-clause-grew
returns-then-count-eq0-clause-grew g c =
    grew_trans _ _ _ _ _ _ c.loop-found.invariant.grew c.in-Ok.ensures.grew

pub returns-then-count-eq0-clause-found : goal.returns-then-count-eq0-clause-found
returns-then-count-eq0-clause-found g c = inr (c.in-Ok.ensures.told.1 c.if-count-eq0.true)

pub returns-then-count-eq0-clause-small : goal.returns-then-count-eq0-clause-small
returns-then-count-eq0-clause-small g c =
    small_more _ _ _ _ _ _ _ c.in-Ok.ensures.grew.grew
    (rw c.held.ensures at c.in-None.ensures.found).1 c.loop-found.invariant.small
    c.in-Ok.ensures.size

pub loop-found-smaller : goal.loop-found-smaller
loop-found-smaller g c =
    omega (arith, c.in-Ok.ensures.told.0, c.in-Ok.ensures.few, c.if-count-eq0.false)

pub loop-found-preserved : goal.loop-found-preserved
loop-found-preserved g c = record {
  of = state_on_more_bytes _ _ _ _ _ _ c.held.ensures c.in-None.ensures.kept
      c.in-Ok.ensures.grew.grew;
  grew = grew_trans _ _ _ _ _ _ c.loop-found.invariant.grew c.in-Ok.ensures.grew;
  small = small_more _ _ _ _ _ _ _ c.in-Ok.ensures.grew.grew
      (rw c.held.ensures at c.in-None.ensures.found).1 c.loop-found.invariant.small
      c.in-Ok.ensures.size;
}

pub returns-in-Err-clause-of : goal.returns-in-Err-clause-of
returns-in-Err-clause-of g c =
    state_on_more_bytes _ _ _ _ _ _ c.held.ensures c.in-None.ensures.kept c.in-Err.ensures.grew.grew

pub returns-in-Err-clause-grew : goal.returns-in-Err-clause-grew
returns-in-Err-clause-grew g c =
    grew_trans _ _ _ _ _ _ c.loop-found.invariant.grew c.in-Err.ensures.grew

pub returns-in-Err-clause-found : goal.returns-in-Err-clause-found
returns-in-Err-clause-found g c = (
  c.in-Err.ensures.told.0,
  rw (c.held.ensures ∙ sym c.in-Err.ensures.told.1) at c.in-None.ensures.found,
)

pub returns-in-Err-clause-small : goal.returns-in-Err-clause-small
returns-in-Err-clause-small g c =
    small_more _ _ _ _ _ _ _ c.in-Err.ensures.grew.grew
    (rw c.held.ensures at c.in-None.ensures.found).1 c.loop-found.invariant.small
    c.in-Err.ensures.size

pub returns-in-Some-clause-full : goal.returns-in-Some-clause-full
returns-in-Some-clause-full g c = λ e. ok_is_not_err e

pub returns-then-count-eq0-clause-full : goal.returns-then-count-eq0-clause-full
returns-then-count-eq0-clause-full g c = λ e. ok_is_not_err e

pub returns-in-Err-clause-full : goal.returns-in-Err-clause-full
returns-in-Err-clause-full g c = λ e.
    same_error _ _ c.in-Err.error OutOfMemory refl refl e c.in-Err.ensures.full
