use Rattle.format_csv_records.proofs.Stepping.{behind_delimiter, behind_step, grows_feed}
use Rattle.format_csv_records.proofs.Stepping.{grows_return}
use Rattle.format_csv_records.proofs.turns.step_behind.Goals as goal

pub returns-then-byte-dialect : goal.returns-then-byte-dialect
returns-then-byte-dialect c = behind_delimiter _ _ c.if-byte-dialect.true

pub returns-then-by_both : goal.returns-then-by_both
returns-then-by_both c = behind_step _ _ _ _ c.in-13.is (grows_return c.args.dialect
    c.if-by_both.ensures) _ c.step_to.ensures

pub returns-then-by_line_feed : goal.returns-then-by_line_feed
returns-then-by_line_feed c = behind_step _ _ _ _ c.in-10.is (grows_feed c.args.dialect
    c.if-by_line_feed.ensures) _ c.step_to-then-by_line_feed.ensures
