use Rattle.std.proofs.Common.{◌∙◌, ap, arith}
use Rattle.std.specs.Prelude.{Err, Ok, Some}
use Rattle.exported.proofs.HeadExtent.{never_at, stops_within, tells_head}
use Rattle.exported.proofs.http.extent.find_end.Goals as goal

pub returns-in-Ok-Some-clause-within : goal.returns-in-Ok-Some-clause-within
returns-in-Ok-Some-clause-within c =
    stops_within _ _ c.args.bytes.now c.advance-answer.result c.advance-answer.ensures.fresh
    c.advance-answer.ensures.short (Ok (Some c.in-Ok-Some.length))
    (c.in-Ok-Some.is ∙ ap Ok (rw c.in-Ok-Some.is at c.in-Ok-Some.field-0-is))

pub returns-in-Err-clause-within : goal.returns-in-Err-clause-within
returns-in-Err-clause-within c =
    stops_within _ _ c.args.bytes.now c.advance-answer.result c.advance-answer.ensures.fresh
    c.advance-answer.ensures.short (Err c.in-Err.refused) c.in-Err.is

pub returns-in-Ok-Some-clause-told : goal.returns-in-Ok-Some-clause-told
returns-in-Ok-Some-clause-told c =
    tells_head c.args.kind _ _ c.args.bytes.now c.advance-answer.result c.args.state.now
    c.state_at.result 0 c.in-Ok-Some.length (c.advance-answer.ensures.told c.args.kind)
    (c.advance-answer.ensures.kept c.args.kind)
    c.extent_at-extent.ensures (c.state_at.ensures c.args.kind)
    (λ _. c.in-Ok-Some.is ∙ ap Ok (rw c.in-Ok-Some.is at c.in-Ok-Some.field-0-is))
    (λ other. absurd (omega (arith, other))) (λ other it. absurd (omega (arith, other)))

pub returns-in-Ok-None-clause-told : goal.returns-in-Ok-None-clause-told
returns-in-Ok-None-clause-told c =
    tells_head c.args.kind _ _ c.args.bytes.now c.advance-answer.result c.args.state.now
    c.state_at.result 2 0 (c.advance-answer.ensures.told c.args.kind)
    (c.advance-answer.ensures.kept c.args.kind)
    c.extent_at-extent.ensures (c.state_at.ensures c.args.kind)
    (λ other. absurd (omega (arith, other)))
    (λ _. c.in-Ok-None.is ∙ ap Ok (rw c.in-Ok-None.is at c.in-Ok-None.field-0-is))
    (λ other it. absurd (omega (arith, other)))

pub returns-in-Err-clause-told : goal.returns-in-Err-clause-told
returns-in-Err-clause-told c =
    tells_head c.args.kind _ _ c.args.bytes.now c.advance-answer.result c.args.state.now
    c.state_at.result 1 c.in-Err.refused.place (c.advance-answer.ensures.told c.args.kind)
    (c.advance-answer.ensures.kept c.args.kind)
    c.extent_at-extent.ensures (c.state_at.ensures c.args.kind)
    (λ other. absurd (omega (arith, other)))
    (λ other. absurd (omega (arith, other)))
    (λ _ it. never_at c.args.kind c.args.bytes.now c.advance-answer.result c.in-Err.refused
    c.in-Err.is it)
