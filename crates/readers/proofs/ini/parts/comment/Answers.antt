use Rattle.std.proofs.Common.{ap, inl, inr, Err, refl}
use Rattle.winnow.specs.Input.{is_end_of_trans}
use Rattle.winnow.specs.Inversion.Outcomes.{fails_at}
use Rattle.winnow.specs.Inversion.Tokens.{token_missing, token_taken}
use Rattle.readers.proofs.Calls.{over_bytes}
use Rattle.readers.proofs.PartRuns.{comment_read, other_first}
use Rattle.readers.proofs.ini.parts.comment.Goals as goal

pub returns-in-Ok : goal.returns-in-Ok
returns-in-Ok c =
    let mark = token_taken over_bytes c.in-Ok.ensures.ran.3 in (
      is_end_of_trans c.line_bytes.ensures.ends c.in-Ok.ensures.ran.0,
      inl (_, comment_read _ _ _ _ mark c.line_bytes.ensures.front, refl),
    )

pub returns-in-Err : goal.returns-in-Err
returns-in-Err c =
    let (kind, kept, other) =
    token_missing over_bytes refl (_, c.in-Err.ensures.ran.3, fails_at _ _) in
    (c.in-Err.ensures.ran.0, inr (other_first _ _ other, ap Err kind))
