use Rattle.std.proofs.Common.{◌≡◌, ◌∙◌, ◌∷◌, ap, rules, sym}
use Rattle.format_json_texts.proofs.Coefficients.{minus_there}
use Rattle.format_json_texts.proofs.decimal.skip_sign.Goals as goal

pub returns-then-first-eq45 : goal.returns-then-first-eq45
returns-then-first-eq45 c = λ n is.
    let begins : c.args.number.now ≡ c.in-Some.first.now ∷ c.in-Some.more.now = search rules in
    minus_there n.negative n.whole _ c.in-Some.more.now is.is_whole.0
    (sym (begins ∙ ap (λ b. b ∷ c.in-Some.more.now) c.if-first-eq45.true) ∙ is.joins)
