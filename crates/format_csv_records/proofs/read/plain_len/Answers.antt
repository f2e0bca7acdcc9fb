use Rattle.std.proofs.Common.{arith, refl}
use Rattle.format_csv_records.specs.Dialects.{IsPlain}
use Rattle.format_csv_records.proofs.Lanes.{longest_prefix_append, run_more}
use Rattle.format_csv_records.proofs.read.plain_len.Goals as goal

pub returns-in-Some : goal.returns-in-Some
returns-in-Some c = longest_prefix_append (IsPlain c.args.dialect) _ _ c.lanes.invariant.all _ refl
    (omega arith) _ c.behind.ensures _ c.in-Some.ensures

pub lanes-preserved : goal.lanes-preserved
lanes-preserved c = record {
  within = omega arith;
  all = run_more (IsPlain c.args.dialect) _ _ c.lanes.invariant.all _ c.behind.ensures
      c.in-None.ensures;
}

pub returns : goal.returns
returns c = longest_prefix_append (IsPlain c.args.dialect) _ _ c.lanes.invariant.all _ refl
    (omega arith) _
    c.behind-2.ensures _ c.plain_rest.ensures
