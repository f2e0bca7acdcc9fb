use Rattle.std.proofs.Common.{refl}
use Rattle.format_http.specs.Heads.Bytes.{IsDigit, IsTokenByte, IsValueByte, IsVisible}
use Rattle.format_http_places.specs.declared.state.FirstLine.TheVariants as first
use Rattle.format_http_places.specs.declared.state.HeadPlace.TheVariants as place
use Rattle.format_http_places.proofs.PlaceSteps.{minor_step, runs_to, step_at, step_if, step_only}
use Rattle.format_http_places.proofs.PlaceSteps.{step_run, takes_byte, takes_one}
use Rattle.format_http_places.proofs.Tests.{token_not, value_not, visible_not}
use Rattle.format_http_places.proofs.state.place_after.Goals as goal

pub returns-in-Start : goal.returns-in-Start
returns-in-Start c = step_if IsTokenByte place.Method c.is_token.result c.then_some.result
    c.in-Start.is (takes_one IsTokenByte) c.is_token.ensures c.then_some.ensures

pub returns-in-Method : goal.returns-in-Method
returns-in-Method c = step_run IsTokenByte 32 place.TargetStart c.args.byte
    c.is_token-in-Method.result c.or_run.result c.in-Method.is (runs_to IsTokenByte 32 (token_not
    32 refl)) c.is_token-in-Method.ensures c.or_run.ensures

pub returns-in-TargetStart : goal.returns-in-TargetStart
returns-in-TargetStart c = step_if IsVisible place.Target c.is_visible.result
    c.then_some-in-TargetStart.result c.in-TargetStart.is (takes_one IsVisible)
    c.is_visible.ensures c.then_some-in-TargetStart.ensures

pub returns-in-Target : goal.returns-in-Target
returns-in-Target c = step_run IsVisible 32 (place.Version first.Request) c.args.byte
    c.is_visible-in-Target.result c.or_run-in-Target.result c.in-Target.is (runs_to IsVisible 32
    (visible_not 32 refl)) c.is_visible-in-Target.ensures c.or_run-in-Target.ensures

pub returns-in-Version : goal.returns-in-Version
returns-in-Version c = step_only 72 (place.AfterH c.in-Version.line) c.only.result c.in-Version.is
    (takes_byte 72) c.only.ensures

pub returns-in-AfterH : goal.returns-in-AfterH
returns-in-AfterH c = step_only 84 (place.AfterT c.in-AfterH.line) c.only-in-AfterH.result
    c.in-AfterH.is (takes_byte 84) c.only-in-AfterH.ensures

pub returns-in-AfterT : goal.returns-in-AfterT
returns-in-AfterT c = step_only 84 (place.AfterTT c.in-AfterT.line) c.only-in-AfterT.result
    c.in-AfterT.is (takes_byte 84) c.only-in-AfterT.ensures

pub returns-in-AfterTT : goal.returns-in-AfterTT
returns-in-AfterTT c = step_only 80 (place.AfterP c.in-AfterTT.line) c.only-in-AfterTT.result
    c.in-AfterTT.is (takes_byte 80) c.only-in-AfterTT.ensures

pub returns-in-AfterP : goal.returns-in-AfterP
returns-in-AfterP c = step_only 47 (place.Major c.in-AfterP.line) c.only-in-AfterP.result
    c.in-AfterP.is (takes_byte 47) c.only-in-AfterP.ensures

pub returns-in-Major : goal.returns-in-Major
returns-in-Major c = step_if IsDigit (place.Point c.in-Major.line) c.is_digit.result
    c.then_some-in-Major.result c.in-Major.is (takes_one IsDigit) c.is_digit.ensures
    c.then_some-in-Major.ensures

pub returns-in-Point : goal.returns-in-Point
returns-in-Point c = step_only 46 (place.Minor c.in-Point.line) c.only-in-Point.result
    c.in-Point.is (takes_byte 46) c.only-in-Point.ensures

pub returns-in-Minor : goal.returns-in-Minor
returns-in-Minor c = minor_step c.in-Minor.line c.after_version.result c.args.byte
    c.is_digit-in-Minor.result c.then_some-in-Minor.result c.in-Minor.is c.after_version.ensures
    c.is_digit-in-Minor.ensures c.then_some-in-Minor.ensures

pub returns-in-Return : goal.returns-in-Return
returns-in-Return c = step_only 13 place.LineFeed c.only-in-Return.result c.in-Return.is
    (takes_byte 13) c.only-in-Return.ensures

pub returns-in-Space : goal.returns-in-Space
returns-in-Space c = step_only 32 place.Hundreds c.only-in-Space.result c.in-Space.is (takes_byte
    32) c.only-in-Space.ensures

pub returns-in-Hundreds : goal.returns-in-Hundreds
returns-in-Hundreds c = step_if IsDigit place.Tens c.is_digit-in-Hundreds.result
    c.then_some-in-Hundreds.result c.in-Hundreds.is (takes_one IsDigit)
    c.is_digit-in-Hundreds.ensures c.then_some-in-Hundreds.ensures

pub returns-in-Tens : goal.returns-in-Tens
returns-in-Tens c = step_if IsDigit place.Ones c.is_digit-in-Tens.result
    c.then_some-in-Tens.result c.in-Tens.is (takes_one IsDigit) c.is_digit-in-Tens.ensures
    c.then_some-in-Tens.ensures

pub returns-in-Ones : goal.returns-in-Ones
returns-in-Ones c = step_if IsDigit place.AfterCode c.is_digit-in-Ones.result
    c.then_some-in-Ones.result c.in-Ones.is (takes_one IsDigit) c.is_digit-in-Ones.ensures
    c.then_some-in-Ones.ensures

pub returns-in-AfterCode : goal.returns-in-AfterCode
returns-in-AfterCode c = step_at c.args.byte c.place_after_code.result c.in-AfterCode.is
    c.place_after_code.ensures

pub returns-in-LineFeed : goal.returns-in-LineFeed
returns-in-LineFeed c = step_only 10 place.Fields c.only-in-LineFeed.result c.in-LineFeed.is
    (takes_byte 10) c.only-in-LineFeed.ensures

pub returns-in-Fields : goal.returns-in-Fields
returns-in-Fields c = step_at c.args.byte c.place_in_fields.result c.in-Fields.is
    c.place_in_fields.ensures

pub returns-in-Name : goal.returns-in-Name
returns-in-Name c = step_run IsTokenByte 58 place.Value c.args.byte c.is_token-in-Name.result
    c.or_run-in-Name.result c.in-Name.is (runs_to IsTokenByte 58 (token_not 58 refl))
    c.is_token-in-Name.ensures c.or_run-in-Name.ensures

pub returns-in-Value : goal.returns-in-Value
returns-in-Value c = step_run IsValueByte 13 place.LineFeed c.args.byte c.is_value.result
    c.or_run-in-Value.result c.in-Value.is (runs_to IsValueByte 13 (value_not 13 refl))
    c.is_value.ensures c.or_run-in-Value.ensures

pub returns-in-LastLineFeed : goal.returns-in-LastLineFeed
returns-in-LastLineFeed c = step_only 10 place.Done c.only-in-LastLineFeed.result
    c.in-LastLineFeed.is (takes_byte 10) c.only-in-LastLineFeed.ensures
