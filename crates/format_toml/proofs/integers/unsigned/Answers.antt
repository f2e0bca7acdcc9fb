use Rattle.format_toml.specs.Numbers.{IsNumber, UnsignedText}
use Rattle.std.proofs.lemmas.Bool.{both_ways}
use Rattle.format_toml.proofs.IntegersLemmas.{unsigned_by}
use Rattle.format_toml.proofs.integers.unsigned.Goals as goal

pub returns-then-is_lone : goal.returns-then-is_lone
returns-then-is_lone c =
    unsigned_by c.number_in.result (c.is_lone.ensures.0 c.if-is_lone.true) c.number_in.ensures

pub returns-else-is_lone : goal.returns-else-is_lone
unfolding IsNumber UnsignedText
returns-else-is_lone c = λ n x small.
    both_ways _ c.if-is_lone.false (c.is_lone.ensures.1 x.1)
