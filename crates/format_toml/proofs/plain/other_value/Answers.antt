use Rattle.std.proofs.lemmas.Bool.{both_ways}
use Rattle.format_toml.proofs.PlainLemmas.{date_told, float_told}
use Rattle.format_toml.proofs.plain.other_value.Goals as goal

pub float_value-requires : goal.float_value-requires
float_value-requires g c = c.is_float.ensures.0 c.if-is_float.true

pub returns-then-is_float : goal.returns-then-is_float
returns-then-is_float g c = float_told _ _ _ c.float_value.ensures

pub returns : goal.returns
returns g c =
    date_told _ _ _ (λ x. absurd (both_ways _ c.if-is_float.false (c.is_float.ensures.1 x)))
    c.date_value.ensures
