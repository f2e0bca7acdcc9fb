use Rattle.format_http_places.specs.declared.state.HeadPlace.TheVariants as place
use Rattle.format_http_places.proofs.Continues.{stops}
use Rattle.format_http_places.proofs.Lines.{not_digit, past_digit}
use Rattle.format_http_places.proofs.Passed.{passed}
use Rattle.format_http_places.proofs.States.{live_at}
use Rattle.format_http_places.proofs.status.read_code.Goals as goal

pub returns-in_err-hundreds : goal.returns-in_err-hundreds
returns-in_err-hundreds c = passed _ _ _ c.in_err-hundreds.field-0.0 c.from_residual.ensures.1
    (not_digit (live_at place.Tens) c.in_err-hundreds.ensures.0 c.in_err-hundreds.ensures.1)

pub returns-in_err-tens : goal.returns-in_err-tens
returns-in_err-tens c =
    passed _ _ _ c.in_err-tens.field-0.0 c.from_residual-in_err-tens.ensures.1
    (stops (past_digit c.in_ok-hundreds.ensures)
    (not_digit (live_at place.Ones) c.in_err-tens.ensures.0 c.in_err-tens.ensures.1))

pub returns-in_err-ones : goal.returns-in_err-ones
returns-in_err-ones c =
    passed _ _ _ c.in_err-ones.field-0.0 c.from_residual-in_err-ones.ensures.1
    (stops (past_digit c.in_ok-hundreds.ensures) (stops (past_digit c.in_ok-tens.ensures)
    (not_digit (live_at place.AfterCode) c.in_err-ones.ensures.0 c.in_err-ones.ensures.1)))
