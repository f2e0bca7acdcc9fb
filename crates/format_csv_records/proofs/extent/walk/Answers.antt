use Rattle.std.proofs.Common.{inl, inr}
use Rattle.std.proofs.lemmas.List.{nil_from_length}
use Rattle.std.specs.Prelude.{None, Some}
use Rattle.format_csv_records.proofs.Extents.{walking_byte, walking_none, walking_run, walks}
use Rattle.format_csv_records.proofs.extent.walk.Goals as goal

pub runs-init : goal.runs-init
runs-init c = walking_none _ _ _

pub returns-in-None : goal.returns-in-None
returns-in-None c = walks _ _ _ _ c.behind-left.result None (walking_run _ _ _ _ _ _ _
    c.runs.invariant c.behind-left.ensures c.run_len-run.ensures.kept) (inr (nil_from_length
    c.behind-left.result.now c.in-None.ensures.cases))

pub runs-preserved : goal.runs-preserved
runs-preserved c = walking_byte _ _ _ _ _ _ _ _ _ (walking_run _ _ _ _ _ _ _ c.runs.invariant
    c.behind-left.ensures c.run_len-run.ensures.kept) c.in-Some.ensures.cases.0 c.in-Goes.ensures
    c.after-at.ensures

pub returns-in-Ends : goal.returns-in-Ends
returns-in-Ends c = walks _ _ _ _ c.behind-left.result None (walking_run _ _ _ _ _ _ _
    c.runs.invariant c.behind-left.ensures c.run_len-run.ensures.kept) (inl c.in-Ends.ensures)

pub returns-in-Never : goal.returns-in-Never
returns-in-Never c = walks c.args.dialect c.args.from _ c.args.fresh.now c.behind-left.result
    (Some c.in-Never.why)
    (walking_run c.args.dialect c.args.from c.runs.at c.args.fresh.now c.runs.rest.now
    c.behind-left.result.now c.run_len-run.result c.runs.invariant c.behind-left.ensures
    c.run_len-run.ensures.kept) (
      c.in-Never.ensures.0,
      (
        c.in-Some.byte.now,
        c.in-Some.more.now,
        c.in-Some.ensures.cases.0,
        c.in-Never.ensures.1,
      ),
    )
