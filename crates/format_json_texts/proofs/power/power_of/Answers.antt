use Rattle.std.proofs.Common.{◌≡◌, ◌∷◌, rules}
use Rattle.format_json_texts.proofs.Powers.{behind_letter, behind_letter_utf8, power_parsed}
use Rattle.format_json_texts.proofs.power.power_of.Goals as goal

pub returns-in-Ok : goal.returns-in-Ok
returns-in-Ok c = λ power is.
    let begins : c.args.exponent.now ≡ c.in-Some.field-0-0.now ∷ c.in-Some.text.now =
    search rules in
    let (numeral, says) = behind_letter _ c.in-Some.text.now power _ is begins in
    power_parsed c.in-Ok.text.now c.in-Some.text.now power c.parse.result c.ok.result
    c.in-Ok.ensures.cases.0
    numeral says c.parse.ensures.value.0 c.ok.ensures.value

pub returns-in-Err : goal.returns-in-Err
returns-in-Err c = λ power is _.
    let begins : c.args.exponent.now ≡ c.in-Some.field-0-0.now ∷ c.in-Some.text.now =
    search rules in
    c.in-Err.ensures.cases.0 (behind_letter_utf8 _ c.in-Some.text.now power _ is begins)
