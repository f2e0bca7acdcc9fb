use Rattle.std.proofs.Common.{refl}
use Rattle.format_http.specs.Heads.Bytes.{IsTokenByte, IsVisible}
use Rattle.format_http_places.specs.declared.state.FirstLine.TheVariants as first
use Rattle.format_http_places.specs.declared.state.HeadPlace.TheVariants as place
use Rattle.format_http_places.proofs.Continues.{not_some, past_ended, stops}
use Rattle.format_http_places.proofs.Passed.{passed}
use Rattle.format_http_places.proofs.Shown.{line_shown}
use Rattle.format_http_places.proofs.States.{a_token, a_visible, live_at}
use Rattle.format_http_places.proofs.Tests.{token_not, visible_not}
use Rattle.format_http_places.proofs.line.read_request_line.Goals as goal

pub returns-in_err-line : goal.returns-in_err-line
returns-in_err-line c = passed _ _ _ c.in_err-line.field-0.0 c.from_residual.ensures.1
    (not_some IsTokenByte 32 65 c.token_len-method.result a_token (token_not 32 refl)
    (live_at place.TargetStart) c.token_len-method.ensures c.in_err-line.ensures)

pub returns-in_err-last : goal.returns-in_err-last
returns-in_err-last c =
    let line = c.in_ok-line.ensures in
    passed _ _ _ c.in_err-last.field-0.0 c.from_residual-in_err-last.ensures.1
    (stops (past_ended IsTokenByte 32 c.token_len-method.result (token_not 32 refl)
    c.token_len-method.ensures line.0 line.1)
    (not_some IsVisible 32 65 c.target_len-target.result a_visible (visible_not 32 refl)
    (live_at (place.Version first.Request)) c.target_len-target.ensures c.in_err-last.ensures))

pub returns-in_err-version : goal.returns-in_err-version
returns-in_err-version c =
    let line = c.in_ok-line.ensures in
    let last = c.in_ok-last.ensures in
    passed _ _ _ c.in_err-version.field-0.0 c.from_residual-in_err-version.ensures.1
    (stops (past_ended IsTokenByte 32 c.token_len-method.result (token_not 32 refl)
    c.token_len-method.ensures line.0 line.1)
    (stops (past_ended IsVisible 32 c.target_len-target.result (visible_not 32 refl)
    c.target_len-target.ensures last.0 last.1) c.in_err-version.ensures))

pub returns : goal.returns
returns c =
    let line = c.in_ok-line.ensures in
    let last = c.in_ok-last.ensures in
    let version = c.in_ok-version.ensures in
    line_shown c.args.bytes.now c.in_ok-line.line.now c.in_ok-last.last.now
    c.token_len-method.result c.target_len-target.result c.in_ok-version.version.major
    c.in_ok-version.version.minor c.in_ok-version.version.rest c.token_len-method.ensures line.0
    line.1 c.target_len-target.ensures last.0 last.1 version.0 version.1 version.2
