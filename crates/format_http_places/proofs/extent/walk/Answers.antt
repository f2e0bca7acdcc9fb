use Rattle.std.proofs.Common.{refl}
use Rattle.std.proofs.lemmas.List.{nil_from_length}
use Rattle.format_http_places.proofs.Continues.{here}
use Rattle.format_http_places.proofs.Extents.{stopped_byte, stopped_end, walked_byte, walked_run}
use Rattle.format_http_places.proofs.extent.walk.Goals as goal

pub runs-init : goal.runs-init
runs-init c = here refl

pub returns-in-None : goal.returns-in-None
returns-in-None c = (
  walked_run c.args.from c.runs.place c.run_len-run.result c.runs.invariant c.behind-left.ensures
      c.run_len-run.ensures.same,
  stopped_end c.runs.place (nil_from_length c.behind-left.result.now c.in-None.ensures.cases),
)

pub returns-in-None-place_after : goal.returns-in-None-place_after
returns-in-None-place_after c = (
  walked_run c.args.from c.runs.place c.run_len-run.result c.runs.invariant c.behind-left.ensures
      c.run_len-run.ensures.same,
  stopped_byte c.runs.place c.in-Some.ensures.cases.0 c.in-None-place_after.ensures,
)

pub runs-preserved : goal.runs-preserved
runs-preserved c = walked_byte c.args.from c.runs.place c.in-Some-place_after.next
    (walked_run c.args.from c.runs.place c.run_len-run.result c.runs.invariant
    c.behind-left.ensures
    c.run_len-run.ensures.same) c.in-Some.ensures.cases.0 c.in-Some-place_after.ensures
