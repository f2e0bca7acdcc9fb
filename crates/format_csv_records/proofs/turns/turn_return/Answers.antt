use Rattle.std.proofs.Common.{arith}
use Rattle.format_csv_records.proofs.Stepping.{goes_step, feed_after_return_grows}
use Rattle.format_csv_records.proofs.Stepping.{never_return}
use Rattle.format_csv_records.specs.declared.extent.RecordPlace.TheVariants as place
use Rattle.format_csv_records.proofs.turns.turn_return.Goals as goal

pub returns-then-byte-eq10 : goal.returns-then-byte-eq10
returns-then-byte-eq10 c = goes_step _ place.Return _ _ _ _ c.if-byte-eq10.true (omega arith)
    (feed_after_return_grows c.args.dialect) _ c.step_to.ensures

pub returns : goal.returns
returns c = (
  λ e. cc,
  λ text fields front bs it.
      never_return _ c.args.dialect.apart _ c.if-byte-eq10.false _ _ _ it,
)
