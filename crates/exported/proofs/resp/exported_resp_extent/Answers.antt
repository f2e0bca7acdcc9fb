use Rattle.exported.proofs.Extent.{tells_end, tells_large, tells_never, tells_wants}
use Rattle.exported.proofs.resp.exported_resp_extent.Goals as goal

pub returns-in-Ok-Some-clause-told : goal.returns-in-Ok-Some-clause-told
returns-in-Ok-Some-clause-told c = λ here.
    tells_end _ _ _ _ c.args.bytes.now c.advance-answer.result c.advance-answer.ensures.told
    c.advance-answer.ensures.kept c.advance-answer.ensures.wants c.version.ensures
    c.args.state.now c.state_at.result c.extent_at-extent.ensures c.state_at.ensures here
    c.in-Ok-Some.field-0 c.in-Ok-Some.length c.in-Ok-Some.is
    (rw c.in-Ok-Some.is at c.in-Ok-Some.field-0-is)

pub returns-in-Ok-None-clause-told : goal.returns-in-Ok-None-clause-told
returns-in-Ok-None-clause-told c = λ here.
    tells_wants _ _ _ _ c.args.bytes.now c.advance-answer.result c.advance-answer.ensures.told
    c.advance-answer.ensures.kept c.advance-answer.ensures.wants c.version.ensures
    c.args.state.now c.state_at.result c.extent_at-extent.ensures c.state_at.ensures here
    c.in-Ok-None.field-0 c.in-Ok-None.is (rw c.in-Ok-None.is at c.in-Ok-None.field-0-is)

pub returns-in-TooLarge-clause-told : goal.returns-in-TooLarge-clause-told
returns-in-TooLarge-clause-told c = λ here.
    tells_large _ _ _ _ c.args.bytes.now c.advance-answer.result c.advance-answer.ensures.told
    c.advance-answer.ensures.kept c.advance-answer.ensures.wants c.version.ensures
    c.args.state.now c.state_at.result c.extent_at-extent.ensures c.state_at.ensures here
    c.in-Err.invalid c.in-Err.is c.in-TooLarge.is

pub returns-in_default-clause-told : goal.returns-in_default-clause-told
returns-in_default-clause-told c = λ here.
    tells_never _ _ _ _ c.args.bytes.now c.advance-answer.result c.advance-answer.ensures.told
    c.advance-answer.ensures.kept c.advance-answer.ensures.wants c.version.ensures
    c.args.state.now c.state_at.result c.extent_at-extent.ensures c.state_at.ensures here
    c.in-Err.invalid c.in-Err.is c.in_default.not-TooLarge
