use Rattle.std.proofs.Common.{arith}
use Rattle.std.proofs.lemmas.Grind.{common_steps}
use Rattle.format_csv_records.proofs.Lanes.{longest_prefix_append}
use Rattle.format_csv_records.proofs.Placing.{run_stored}
use Rattle.format_csv_records.proofs.buffers.put_unquoted.Goals as goal

pub returns-clause-run : goal.returns-clause-run
returns-clause-run c = longest_prefix_append _ _ _ c.loop-place.invariant.0.all _ (omega arith)
    c.room_for-room.ensures.few _ c.behind.ensures _ c.unquoted_len.ensures.run

pub loop-place-preserved : goal.loop-place-preserved
loop-place-preserved c = (
  grind (arith, common_steps),
  run_stored c.args.at c.loop-place.place c.loop-place.text c.args.text.now _
      c.loop-place.invariant.1,
)
