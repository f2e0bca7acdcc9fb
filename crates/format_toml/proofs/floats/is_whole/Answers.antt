use Rattle.std.proofs.lemmas.Bool.{both_ways}
use Rattle.format_toml.specs.Floats.{IsWhole}
use Rattle.format_toml.proofs.floats.is_whole.Goals as goal

pub returns-then-is_lone : goal.returns-then-is_lone
unfolding IsWhole
returns-then-is_lone c = (
  λ t. (c.are_digits.ensures.0 t, c.is_lone.ensures.0 c.if-is_lone.true),
  λ x. c.are_digits.ensures.1 x.0,
)

pub returns-else-is_lone : goal.returns-else-is_lone
unfolding IsWhole
returns-else-is_lone c =
    (λ t. absurd (both_ways _ c.if-is_lone.false t), λ x. c.is_lone.ensures.1 x.1)
