use Rattle.std.proofs.Common.{[], refl, sym, ap, ◌∙◌, ◌++◌}
use Rattle.std.proofs.lemmas.List.{append-nil}
use Rattle.std.proofs.lemmas.Result.{on_ok_weaker}
use Rattle.format_csv_records.proofs.Alone.{doubled_nil}
use Rattle.format_csv_records.proofs.Writing.{extends_after_append, extends_refl, write_end}
use Rattle.format_csv_records.proofs.Writing.{write_more}
use Rattle.format_csv_records.proofs.write.write_doubled.Goals as goal

pub runs-init : goal.runs-init
runs-init g c = (
  [],
  refl,
  sym (ap (λ l. c.args.out.now.items ++ l) (doubled_nil _) ∙ append-nil _),
)

pub returns-then-run-rest-clause-done : goal.returns-then-run-rest-clause-done
returns-then-run-rest-clause-done g c = on_ok_weaker c.put.result (λ e. write_end _ _ _ _ _ _ _
    c.runs.invariant.1 c.runs.invariant.2 c.unquoted_len-run.ensures.run c.if-run-rest.true _ _
    c.in_ok-extend_from_slice.ensures.items e) c.put.ensures.done

pub runs-preserved : goal.runs-preserved
runs-preserved g c = write_more _ _ _ _ _ _ _ c.runs.invariant.1 c.runs.invariant.2
    c.unquoted_len-run.ensures.run c.if-run-rest.false _ _ _ _ c.behind-rest.ensures
    c.front.ensures c.in_ok-extend_from_slice-2.ensures.items c.in_ok-put.ensures.done

pub returns-then-run-rest-clause-kept : goal.returns-then-run-rest-clause-kept
returns-then-run-rest-clause-kept g c =
    extends_after_append _ _ _ _ c.runs.invariant.2 (extends_after_append _ _ _ _
    c.in_ok-extend_from_slice.ensures.items c.put.ensures.kept)

pub returns-in_err-extend_from_slice-clause-kept : goal.returns-in_err-extend_from_slice-clause-kept
returns-in_err-extend_from_slice-clause-kept g c =
    extends_after_append _ _ _ _ c.runs.invariant.2
    (extends_refl _ _ c.in_err-extend_from_slice.ensures.items)

pub returns-in_err-extend_from_slice-2-clause-kept
    : goal.returns-in_err-extend_from_slice-2-clause-kept
returns-in_err-extend_from_slice-2-clause-kept g c =
    extends_after_append _ _ _ _ c.runs.invariant.2 (extends_refl _ _
    c.in_err-extend_from_slice-2.ensures.items)

pub returns-in_err-put-clause-kept : goal.returns-in_err-put-clause-kept
returns-in_err-put-clause-kept g c =
    extends_after_append _ _ _ _ c.runs.invariant.2 (extends_after_append _ _ _ _
    c.in_ok-extend_from_slice-2.ensures.items c.in_err-put.ensures.kept)
