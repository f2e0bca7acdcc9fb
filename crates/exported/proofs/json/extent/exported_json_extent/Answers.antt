use Rattle.std.proofs.Common.{inl, inr, length, refl}
use Rattle.format_json_pieces.specs.Extents.{ExtentResult, WholeResult}
use Rattle.format_json_pieces.proofs.Extents.Passed.{of_new}
use Rattle.exported.proofs.JsonExtent.{of_state, tells_by, to_state}
use Rattle.exported.proofs.json.extent.exported_json_extent.Goals as goal

pub returns-then-is_complete-eq0-clause-told : goal.returns-then-is_complete-eq0-clause-told
returns-then-is_complete-eq0-clause-told c partial here =
    tells_by (ExtentResult (length c.args.brackets.now) c.args.bytes.now) 2 _ _ (inl refl)
    c.advance-answer.result c.tell.ensures
    (c.advance-answer.ensures.told
    (of_state _ c.args.state.now _ _ c.extent_at-extent.ensures here))

pub returns-then-is_complete-eq0-clause-kept : goal.returns-then-is_complete-eq0-clause-kept
returns-then-is_complete-eq0-clause-kept c here more =
    to_state _ c.state_at.result _ _ c.state_at.ensures.is
    (c.advance-answer.ensures.kept
    (of_state _ c.args.state.now _ _ c.extent_at-extent.ensures here) more)

pub returns-else-is_complete-eq0-clause-whole : goal.returns-else-is_complete-eq0-clause-whole
returns-else-is_complete-eq0-clause-whole c complete here =
    tells_by (WholeResult (length c.args.brackets.now) c.args.bytes.now) 9 _ _ (inr refl)
    c.finish-answer.result c.tell-else-is_complete-eq0.ensures
    (c.finish-answer.ensures.told
    (of_state _ c.args.state.now _ _ c.extent_at-extent.ensures here))

pub returns-else-is_complete-eq0-clause-kept : goal.returns-else-is_complete-eq0-clause-kept
returns-else-is_complete-eq0-clause-kept c here more =
    to_state _ c.state_at-else-is_complete-eq0.result _ _
    c.state_at-else-is_complete-eq0.ensures.is
    (of_new _ _ _ c.finish-answer.ensures.again)
