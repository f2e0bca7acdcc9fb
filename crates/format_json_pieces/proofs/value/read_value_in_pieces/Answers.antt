use Rattle.std.proofs.Common.{refl, rules}
use Rattle.format_json_pieces.specs.Value.{IsValueIn}
use Rattle.format_json_pieces.proofs.ResultsLemmas.{failure_is_told, match_is_told}
use Rattle.format_json_pieces.proofs.ValueLemmas.{value_ends}
use Rattle.format_json_pieces.proofs.value.read_value_in_pieces.Goals as goal

pub returns-in-Ok-clause-told : goal.returns-in-Ok-clause-told
returns-in-Ok-clause-told g c =
    match_is_told (IsValueIn c.args.level) _ _ _ _ _ _ (value_ends c.args.level)
    c.in-Ok.ensures.value (search rules) (search rules)

pub returns-in-Err-clause-told : goal.returns-in-Err-clause-told
returns-in-Err-clause-told g c =
    failure_is_told (IsValueIn c.args.level) _ _ _ _ _ c.in-Err.ensures.none (search rules) refl
