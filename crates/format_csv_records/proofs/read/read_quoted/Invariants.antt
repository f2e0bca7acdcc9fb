use Rattle.std.proofs.Common.{◌≡◌, length}
use Rattle.format_csv_records.proofs.Alone.{Between}
use Rattle.format_csv_records.proofs.read.read_quoted.Given as goal

abbrev pub invariant-runs : goal.invariant-runs
invariant-runs g l = record {
  read : Between l.quote l.fn.input.now l.rest (g.S.FieldSink.begun l.fn.sink)
      (g.S.FieldSink.begun l.sink);
  same : g.S.FieldSink.fields l.sink ≡ g.S.FieldSink.fields l.fn.sink;
}

abbrev pub decreases-runs : goal.decreases-runs
decreases-runs g l = length l.rest
