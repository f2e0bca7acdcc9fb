use Rattle.format_resp.proofs.NumberTexts.{match_bool_map, tail_none, tail_other, tail_other_back}
use Rattle.format_resp.proofs.NumberTexts.{tail_point, tail_point_back, tail_point_none}
use Rattle.format_resp.proofs.numbers.is_tail.Goals as goal

pub returns-in-Some-skip_digits : goal.returns-in-Some-skip_digits
returns-in-Some-skip_digits c =
    let rest = c.in-Some-skip_digits.rest.now in
    match_bool_map _ _ _ _ c.is_exponent.result
    (λ x. tail_point _ _ rest _ c.if-first-eq46.true c.in-Some.ensures.cases.0
    c.in-Some-skip_digits.ensures x)
    (λ none x. none (tail_point_back _ _ rest _ c.if-first-eq46.true c.in-Some.ensures.cases.0
    c.in-Some-skip_digits.ensures x)) c.is_exponent.ensures

pub returns-in-None-skip_digits : goal.returns-in-None-skip_digits
returns-in-None-skip_digits c = tail_point_none _ _ _ c.if-first-eq46.true
    c.in-Some.ensures.cases.0 c.in-None-skip_digits.ensures

pub returns-else-first-eq46 : goal.returns-else-first-eq46
returns-else-first-eq46 c =
    match_bool_map _ _ _ _ c.is_exponent-else-first-eq46.result (λ x. tail_other _ x)
    (λ none x. none (tail_other_back _ _ _ c.if-first-eq46.false c.in-Some.ensures.cases.0 x))
    c.is_exponent-else-first-eq46.ensures

pub returns-in-None : goal.returns-in-None
returns-in-None c = tail_none c.args.bytes.now c.in-None.ensures.cases
