use Rattle.std.proofs.Common.{Ok, [], ap, length, subst}
use Rattle.format_json_pieces.specs.Extents.{ExtentResult, WholeResult}
use Rattle.format_json_pieces.proofs.Extents.Whole.{all_passed, at_longer}
use Rattle.format_json_pieces.proofs.extent.ValueExtent.finish.Goals as goal

pub returns-in-Some-clause-told : goal.returns-in-Some-clause-told
returns-in-Some-clause-told c is =
    at_longer _ _ _
    (subst (λ o. ExtentResult (length c.args.brackets.now) c.args.bytes.now (Ok o)) c.in-Some.is
    (c.in_ok-length.ensures.told is))

pub returns-in-None-clause-told : goal.returns-in-None-clause-told
returns-in-None-clause-told c is =
    subst (λ n. WholeResult n c.args.bytes.now c.end-ended.result) c.advance.auto.brackets
    (c.end-ended.ensures.told (all_passed _ _ _ (c.in_ok-length.ensures.kept is [])
    (c.in_ok-length.ensures.all is (ap (λ o. Ok o) c.in-None.is))))
