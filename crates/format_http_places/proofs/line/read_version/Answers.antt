use Rattle.std.proofs.Common.{◌∙◌, ◌++◌, ap}
use Rattle.format_http.specs.Heads.RequestLine.{digits}
use Rattle.format_http_places.specs.Grammar.{protocol}
use Rattle.format_http_places.specs.declared.state.FirstLine.TheVariants as first
use Rattle.format_http_places.specs.declared.state.HeadPlace.TheVariants as place
use Rattle.format_http_places.proofs.Continues.{end_stops, stops}
use Rattle.format_http_places.proofs.Lines.{past_version}
use Rattle.format_http_places.proofs.Passed.{passed}
use Rattle.format_http_places.proofs.States.{live_at}
use Rattle.format_http_places.proofs.line.read_version.Goals as goal

pub returns-in_err-numbers : goal.returns-in_err-numbers
returns-in_err-numbers c = passed _ _ _ c.in_err-numbers.field-0.0 c.from_residual.ensures.1
    (c.in_err-numbers.ensures first.Request)

pub returns-in_err-rest : goal.returns-in_err-rest
returns-in_err-rest c =
    let numbers = c.in_ok-numbers.numbers in
    let (less, small, at) = c.in_ok-numbers.ensures in
    passed _ _ _ c.in_err-rest.field-0.0 c.from_residual-in_err-rest.ensures.1
    (stops (past_version numbers.major numbers.minor less small at)
    (end_stops (live_at place.Fields) c.in_err-rest.ensures))

pub returns : goal.returns
returns c =
    let numbers = c.in_ok-numbers.numbers in
    let (less, small, at) = c.in_ok-numbers.ensures in (
      less,
      small,
      at ∙ ap (λ l. protocol ++ (digits numbers.major numbers.minor ++ l)) c.in_ok-rest.ensures,
    )
