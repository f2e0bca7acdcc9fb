use Rattle.std.proofs.Common.{refl}
use Rattle.format_http_chunked.proofs.Digits.{digit_goes, digits_end, fault_large}
use Rattle.format_http_chunked.proofs.Turns.{iff_trans}
use Rattle.format_http_chunked.proofs.framing.after_digit.Goals as goal

pub returns-in-Some-after_in_line-clause-ok : goal.returns-in-Some-after_in_line-clause-ok
returns-in-Some-after_in_line-clause-ok c content trailers bytes = iff_trans (digits_end _ _
    (c.in-None.ensures.none refl) _ _ _) (c.in-Some-after_in_line.ensures.some content trailers
    bytes)

pub returns-in-None-after_in_line-clause-err : goal.returns-in-None-after_in_line-clause-err
returns-in-None-after_in_line-clause-err c room left = (
  tt,
  λ content trailers bytes x.
      c.in-None-after_in_line.ensures.none refl content trailers bytes ((digits_end _ _
      (c.in-None.ensures.none refl) _ _ _).0 x),
)

pub returns-in-Some-number_after-clause-ok : goal.returns-in-Some-number_after-clause-ok
returns-in-Some-number_after-clause-ok c = digit_goes _ _ _ _ c.in-Some.ensures.some.1
    c.in-Some.ensures.some.0 c.in-Some-number_after.ensures.some

pub returns-in-None-number_after-clause-err : goal.returns-in-None-number_after-clause-err
returns-in-None-number_after-clause-err c room left = (
  ((c.args.number, refl), c.in-Some.ensures.some.0),
  fault_large _ _ _ c.in-Some.ensures.some.1 c.in-Some.ensures.some.0
      (c.in-None-number_after.ensures.none refl),
)
