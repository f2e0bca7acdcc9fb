use Rattle.std.proofs.Common.{rules}
use Rattle.readers.proofs.Formulas.{formula_fault, formula_refused, formula_value}
use Rattle.readers.proofs.program.answer_formula.Goals as goal

pub returns-in_ok-text-in-Ok-value : goal.returns-in_ok-text-in-Ok-value
returns-in_ok-text-in-Ok-value g c =
    formula_value c.args.bytes.now c.in-Ok.text.now c.in-Ok-value.value _ c.in-Ok.ensures.cases.0
    c.in-Ok.ensures.cases.1 c.in-Ok-value.ensures.ok (search rules)

pub returns-in-Err-Invalid : goal.returns-in-Err-Invalid
returns-in-Err-Invalid g c =
    formula_refused (λ a. a.verdict) (λ a. a.text.items) c.refusal.result c.args.bytes.now
    c.in-Err-Invalid.at c.refusal.ensures
    (formula_fault c.args.bytes.now c.in-Ok.text.now c.in-Err-Invalid.at c.in-Ok.ensures.cases.0
    c.in-Ok.ensures.cases.1 (search rules depth 1))
