use Rattle.std.proofs.Common.{◌∙◌, ◌∷◌, [], sym}
use Rattle.format_http_places.proofs.Continues.{at_front, stops}
use Rattle.format_http_places.proofs.Lines.{behind_space, reason_stops, value_stops}
use Rattle.format_http_places.proofs.Passed.{passed}
use Rattle.format_http_places.proofs.Shown.{none_shown, reason_shown}
use Rattle.format_http_places.proofs.status.read_reason.Goals as goal

pub returns-in_err-rest : goal.returns-in_err-rest
returns-in_err-rest c = passed _ _ _ c.in_err-rest.field-0.0 c.from_residual.ensures.1
    (stops (at_front (32 ∷ []) behind_space c.in-Ok.ensures) (value_stops c.value_len-size.result
    c.value_len-size.ensures c.behind.ensures c.in_err-rest.ensures))

pub returns-in-Ok : goal.returns-in-Ok
returns-in-Ok c = reason_shown c.args.whole c.args.bytes.now c.in-Ok.text.now
    c.value_len-size.result c.in_ok-rest.rest c.in-Ok.ensures c.value_len-size.ensures
    (sym c.behind.ensures ∙ c.in_ok-rest.ensures)

pub returns-in_err-rest-2 : goal.returns-in_err-rest-2
returns-in_err-rest-2 c =
    passed _ _ _ c.in_err-rest-2.field-0.0 c.from_residual-in_err-rest-2.ensures.1
    (reason_stops c.in_default.ensures.0 c.in_err-rest-2.ensures)

pub returns : goal.returns
returns c = none_shown c.args.whole c.args.bytes.now c.in_ok-rest-2.rest c.in_ok-rest-2.ensures
