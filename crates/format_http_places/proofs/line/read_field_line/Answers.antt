use Rattle.std.proofs.Common.{◌∙◌, List, ℕ, subst, sym}
use Rattle.format_http_places.specs.Places.{IsBare}
use Rattle.format_http_places.proofs.Continues.{stops}
use Rattle.format_http_places.proofs.Lines.{name_stops, past_colon, value_stops}
use Rattle.format_http_places.proofs.Passed.{passed}
use Rattle.format_http_places.proofs.Shown.{field_shown}
use Rattle.format_http_places.proofs.line.read_field_line.Goals as goal

pub returns-in_err-text : goal.returns-in_err-text
returns-in_err-text c = passed _ _ _ c.in_err-text.field-0.0 c.from_residual.ensures.1
    (λ first. name_stops c.token_len-name.result first c.token_len-name.ensures
    c.in_err-text.ensures)

pub returns-in_err-rest : goal.returns-in_err-rest
returns-in_err-rest c =
    let text = c.in_ok-text.ensures in
    passed _ _ _ c.in_err-rest.field-0.0 c.from_residual-in_err-rest.ensures.1
    (λ first. stops (past_colon c.token_len-name.result c.token_len-name.ensures text.0 text.1)
    (value_stops c.value_len-size.result c.value_len-size.ensures c.behind.ensures
    c.in_err-rest.ensures))

pub returns : goal.returns
returns c =
    let text = c.in_ok-text.ensures in
    let P : List ℕ → Type 0 = λ l. IsBare l c.bare-value.result in
    field_shown c.args.whole c.args.bytes.now c.in_ok-text.text.now c.in_ok-rest.rest
    c.token_len-name.result c.value_len-size.result c.bare-value.result c.token_len-name.ensures
    text.0 text.1 c.value_len-size.ensures (sym c.behind.ensures ∙ c.in_ok-rest.ensures)
    (subst P c.front.ensures c.bare-value.ensures)
