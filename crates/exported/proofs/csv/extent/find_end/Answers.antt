use Rattle.std.proofs.Common.{◌∙◌, ap, arith, refl}
use Rattle.std.specs.Prelude.{Err, Ok, Some}
use Rattle.exported.proofs.RecordExtent.{stops_within, tells_record}
use Rattle.exported.proofs.csv.extent.find_end.Goals as goal

pub returns-in-Ok-Some-clause-told : goal.returns-in-Ok-Some-clause-told
returns-in-Ok-Some-clause-told c =
    tells_record c.args.dialect _ _ c.args.bytes.now c.advance-answer.result
    c.args.state.now c.state_at.result 0 _ c.advance-answer.ensures.told
    c.advance-answer.ensures.kept c.extent_at-extent.ensures c.state_at.ensures
    (λ _. (
      c.in-Ok-Some.size,
      c.in-Ok-Some.is ∙ ap Ok (rw c.in-Ok-Some.is at c.in-Ok-Some.field-0-is),
      (refl, refl, refl),
    ))
    (λ other. absurd (omega (arith, other))) (λ other. absurd (omega (arith, other)))

pub returns-in-Ok-None-clause-told : goal.returns-in-Ok-None-clause-told
returns-in-Ok-None-clause-told c =
    tells_record c.args.dialect _ _ c.args.bytes.now c.advance-answer.result
    c.args.state.now c.state_at.result 2 _ c.advance-answer.ensures.told
    c.advance-answer.ensures.kept c.extent_at-extent.ensures c.state_at.ensures
    (λ other. absurd (omega (arith, other)))
    (λ _. c.in-Ok-None.is ∙ ap Ok (rw c.in-Ok-None.is at c.in-Ok-None.field-0-is))
    (λ other. absurd (omega (arith, other)))

pub returns-in-Err-clause-told : goal.returns-in-Err-clause-told
returns-in-Err-clause-told c =
    tells_record c.args.dialect _ _ c.args.bytes.now c.advance-answer.result
    c.args.state.now c.state_at.result 1 _ c.advance-answer.ensures.told
    c.advance-answer.ensures.kept c.extent_at-extent.ensures c.state_at.ensures
    (λ other. absurd (omega (arith, other))) (λ other. absurd (omega (arith, other)))
    (λ _. (c.in-Err.fault, c.in-Err.is, c.none_at-in-Err.ensures.place))

pub returns-in-Ok-Some-clause-within : goal.returns-in-Ok-Some-clause-within
returns-in-Ok-Some-clause-within c = (
  stops_within c.args.dialect _ _ c.args.bytes.now c.advance-answer.result
      c.advance-answer.ensures.fresh c.advance-answer.ensures.short
      c.advance-answer.ensures.many (Ok (Some c.in-Ok-Some.size))
      (c.in-Ok-Some.is ∙ ap Ok (rw c.in-Ok-Some.is at c.in-Ok-Some.field-0-is)),
  omega arith,
)

pub returns-in-Ok-None-clause-within : goal.returns-in-Ok-None-clause-within
returns-in-Ok-None-clause-within c = (
  omega (arith, c.none_at.ensures.sizes.2),
  omega (arith, c.none_at.ensures.place),
)

pub returns-in-Err-clause-within : goal.returns-in-Err-clause-within
returns-in-Err-clause-within c = (
  omega (arith, c.none_at-in-Err.ensures.sizes.2),
  omega (
    arith,
    c.none_at-in-Err.ensures.place,
    stops_within c.args.dialect _ _ c.args.bytes.now c.advance-answer.result
        c.advance-answer.ensures.fresh c.advance-answer.ensures.short
        c.advance-answer.ensures.many (Err c.in-Err.fault) c.in-Err.is,
  ),
)
