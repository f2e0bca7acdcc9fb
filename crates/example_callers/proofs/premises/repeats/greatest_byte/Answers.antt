use Rattle.std.proofs.Common.{◌∙◌, ap, rules}
use Rattle.example_callers.proofs.PremiseLemmas.{greatest_is}
use Rattle.winnow.specs.Exact.Same.{reads_as}
use Rattle.winnow.specs.Range.{bounds_of}
use Rattle.example_callers.proofs.premises.repeats.greatest_byte.Goals as goal

pub returns : goal.returns
returns g c =
    let range = c.fold.ensures.occurrences ∙ c.repeat.ensures.occurrences in
    reads_as (greatest_is _ _ _ _ _ (ap bounds_of range)
    (λ r. (λ m. search rules, λ m. search rules))
    (λ r o q. (λ m. search rules, λ m. search rules))) c.read.ensures.reads
