use Rattle.format_json_extents.proofs.Matching.{no_byte_match}
use Rattle.format_json_extents.proofs.Scanning.{grown_scans, refuted_by_test, second_scans}
use Rattle.format_json_extents.proofs.Walks.{token_bracket}
use Rattle.format_json_extents.specs.Number.{ExtendsNumber}
use Rattle.format_json_extents.specs.Value.{ExtendsNumberOf}
use Rattle.format_json_extents.proofs.steps.skip_token.Goals as goal

pub returns-then-is_bracket : goal.returns-then-is_bracket
returns-then-is_bracket c =
    token_bracket c.in_ok-first.ensures.cases.0 (c.is_bracket.ensures.0 c.if-is_bracket.true)

pub returns-else-is_bracket : goal.returns-else-is_bracket
returns-else-is_bracket c =
    second_scans _ _ ExtendsNumber _ c.skip_scalar.result
    (no_byte_match c.in_ok-first.ensures.cases.0
    (refuted_by_test c.is_bracket.ensures c.if-is_bracket.false))
    (grown_scans _ (ExtendsNumberOf c.args.bytes.now) ExtendsNumber _ c.skip_scalar.result
    (λ b is. is.1) c.skip_scalar.ensures)
