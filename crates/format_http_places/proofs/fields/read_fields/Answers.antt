use Rattle.std.proofs.Common.{◌∷◌, [], refl}
use Rattle.format_http_places.specs.declared.state.HeadPlace.TheVariants as place
use Rattle.format_http_places.proofs.Continues.{at_front, not_byte, stops}
use Rattle.format_http_places.proofs.FieldLines.{behind_more, line_less, so_far_ends}
use Rattle.format_http_places.proofs.FieldLines.{so_far_more, so_far_none}
use Rattle.format_http_places.proofs.Lines.{behind_return, past_lines}
use Rattle.format_http_places.proofs.Passed.{passed}
use Rattle.format_http_places.proofs.States.{live_at}
use Rattle.format_http_places.proofs.fields.read_fields.Goals as goal

pub fields-init : goal.fields-init
fields-init c = record {
  so_far = so_far_none c.args.whole c.args.bytes.now c.args.fields.now;
  behind = refl;
}

pub returns-in_err-left-clause-found : goal.returns-in_err-left-clause-found
returns-in_err-left-clause-found c =
    let it = c.fields.invariant.so_far in
    passed _ _ _ c.in_err-left.field-0.0 c.from_residual.ensures.1
    (stops (past_lines it.fields it.are) (stops (at_front (13 ∷ []) behind_return c.in-Ok.ensures)
    (not_byte 10 (live_at place.Done) c.in_err-left.ensures.0 c.in_err-left.ensures.1)))

pub returns-in-Ok-clause-found : goal.returns-in-Ok-clause-found
returns-in-Ok-clause-found c =
    so_far_ends c.fields.invariant.so_far c.in-Ok.ensures c.in_ok-left.ensures

pub returns-in-Ok-clause-behind : goal.returns-in-Ok-clause-behind
returns-in-Ok-clause-behind c = c.fields.invariant.behind

pub returns-in_err-found-clause-found : goal.returns-in_err-found-clause-found
returns-in_err-found-clause-found c =
    let it = c.fields.invariant.so_far in
    passed _ _ _ c.in_err-found.field-0.0 c.from_residual-in_err-found.ensures.1
    (stops (past_lines it.fields it.are) (c.in_err-found.ensures c.in_default.ensures.0))

pub fields-smaller : goal.fields-smaller
fields-smaller c = line_less c.in_ok-found.ensures.is_line

pub fields-preserved : goal.fields-preserved
fields-preserved c = record {
  so_far = so_far_more c.fields.invariant.so_far c.in_ok-found.ensures c.write.ensures.same
      c.write.ensures.put;
  behind = behind_more c.fields.fields c.write.new.fields c.args.fields.now c.fields.count
      c.fields.invariant.behind c.write.ensures.behind;
}
