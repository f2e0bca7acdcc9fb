use Rattle.std.proofs.Common.{List, ℕ, subst, ◌∙◌, ◌++◌, ap}
use Rattle.format_http_places.specs.Grammar.{Differs, protocol}
use Rattle.format_http_places.specs.declared.state.HeadPlace.TheVariants as place
use Rattle.format_http_places.proofs.Continues.{not_byte, past_byte, past_text, stops, text_stops}
use Rattle.format_http_places.proofs.Lines.{not_digit, past_digit}
use Rattle.format_http_places.proofs.Passed.{passed}
use Rattle.format_http_places.proofs.States.{live_after, live_at}
use Rattle.format_http_places.proofs.line.read_numbers.Goals as goal

pub returns-in_err-first : goal.returns-in_err-first
returns-in_err-first c =
    let P : List ℕ → Type 0 = λ t. Differs t c.args.bytes.now c.in_err-first.field-0.0.left in
    passed _ _ _ c.in_err-first.field-0.0 c.from_residual.ensures.1
    (λ k. text_stops protocol (live_at (place.Major k))
    (subst P c.as_slice.ensures c.in_err-first.ensures))

pub returns-in_err-major : goal.returns-in_err-major
returns-in_err-major c =
    let first = c.in_ok-first.ensures ∙ ap (λ l. l ++ c.in_ok-first.first.now) c.as_slice.ensures
    in
    passed _ _ _ c.in_err-major.field-0.0 c.from_residual-in_err-major.ensures.1
    (λ k. stops (past_text protocol first)
    (not_digit (live_at (place.Point k)) c.in_err-major.ensures.0 c.in_err-major.ensures.1))

pub returns-in_err-second : goal.returns-in_err-second
returns-in_err-second c =
    let first = c.in_ok-first.ensures ∙ ap (λ l. l ++ c.in_ok-first.first.now) c.as_slice.ensures
    in
    passed _ _ _ c.in_err-second.field-0.0 c.from_residual-in_err-second.ensures.1
    (λ k. stops (past_text protocol first) (stops (past_digit c.in_ok-major.ensures)
    (not_byte 46 (live_at (place.Minor k)) c.in_err-second.ensures.0 c.in_err-second.ensures.1)))

pub returns-in_err-minor : goal.returns-in_err-minor
returns-in_err-minor c =
    let first = c.in_ok-first.ensures ∙ ap (λ l. l ++ c.in_ok-first.first.now) c.as_slice.ensures
    in
    passed _ _ _ c.in_err-minor.field-0.0 c.from_residual-in_err-minor.ensures.1
    (λ k. stops (past_text protocol first) (stops (past_digit c.in_ok-major.ensures)
    (stops (past_byte c.in_ok-second.ensures)
    (not_digit (live_after k) c.in_err-minor.ensures.0 c.in_err-minor.ensures.1))))

pub returns : goal.returns
returns c = (
  c.in_ok-major.ensures.0,
  c.in_ok-minor.ensures.0,
  cc (
    c.in_ok-first.ensures,
    c.as_slice.ensures,
    c.in_ok-major.ensures.1,
    c.in_ok-second.ensures,
    c.in_ok-minor.ensures.1,
  ),
)
