use Rattle.format_resp.proofs.NumberTexts.{decimal_back, decimal_is, decimal_none, match_bool_map}
use Rattle.format_resp.proofs.numbers.is_decimal.Goals as goal

pub returns-in-Some : goal.returns-in-Some
returns-in-Some c =
    let number = c.without_sign.result.now in
    let rest = c.in-Some.rest.now in
    match_bool_map _ _ _ _ c.is_tail.result
    (λ x. decimal_is c.args.bytes.now number rest c.without_sign.ensures c.in-Some.ensures x)
    (λ none x. none (decimal_back c.args.bytes.now number rest c.without_sign.ensures
    c.in-Some.ensures x)) c.is_tail.ensures

pub returns-in-None : goal.returns-in-None
returns-in-None c = decimal_none c.args.bytes.now c.without_sign.result.now c.without_sign.ensures
    c.in-None.ensures
