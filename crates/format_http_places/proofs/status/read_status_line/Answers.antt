use Rattle.format_http_places.specs.declared.state.FirstLine.TheVariants as first
use Rattle.format_http_places.specs.declared.state.HeadPlace.TheVariants as place
use Rattle.format_http_places.proofs.Continues.{not_byte, past_byte, stops}
use Rattle.format_http_places.proofs.Lines.{past_code, past_version}
use Rattle.format_http_places.proofs.Passed.{passed}
use Rattle.format_http_places.proofs.Shown.{status_shown}
use Rattle.format_http_places.proofs.States.{live_at}
use Rattle.format_http_places.proofs.status.read_status_line.Goals as goal

pub returns-in_err-version : goal.returns-in_err-version
returns-in_err-version c = passed _ _ _ c.in_err-version.field-0.0 c.from_residual.ensures.1
    (c.in_err-version.ensures first.Response)

pub returns-in_err-digits : goal.returns-in_err-digits
returns-in_err-digits c =
    let version = c.in_ok-version.version in
    let (less, small, at) = c.in_ok-version.ensures in
    passed _ _ _ c.in_err-digits.field-0.0 c.from_residual-in_err-digits.ensures.1
    (stops (past_version version.major version.minor less small at)
    (not_byte 32 (live_at place.Hundreds) c.in_err-digits.ensures.0 c.in_err-digits.ensures.1))

pub returns-in_err-code : goal.returns-in_err-code
returns-in_err-code c =
    let version = c.in_ok-version.version in
    let (less, small, at) = c.in_ok-version.ensures in
    passed _ _ _ c.in_err-code.field-0.0 c.from_residual-in_err-code.ensures.1
    (stops (past_version version.major version.minor less small at)
    (stops (past_byte c.in_ok-digits.ensures) c.in_err-code.ensures))

pub returns-in_err-reason : goal.returns-in_err-reason
returns-in_err-reason c =
    let version = c.in_ok-version.version in
    let (less, small, at) = c.in_ok-version.ensures in
    passed _ _ _ c.in_err-reason.field-0.0 c.from_residual-in_err-reason.ensures.1
    (stops (past_version version.major version.minor less small at)
    (stops (past_byte c.in_ok-digits.ensures)
    (stops (past_code c.in_ok-code.ensures) c.in_err-reason.ensures)))

pub returns : goal.returns
returns c =
    let version = c.in_ok-version.version in
    let (less, small, at) = c.in_ok-version.ensures in
    status_shown c.args.bytes.now version.rest.now c.in_ok-digits.digits.now
    c.in_ok-code.code.rest.now version.major version.minor c.in_ok-code.code.status
    c.in_ok-reason.reason less small at c.in_ok-digits.ensures c.in_ok-code.ensures
    c.in_ok-reason.ensures
