use Rattle.std.proofs.Common.{ap, ◌∙◌}
use Rattle.winnow_core.specs.Exact.Same.{reads_as}
use Rattle.grammars.specs.Grammar.Alike.{gathered_same, many_same}
use Rattle.format_dns.proofs.Laws.{in_range, one_says, same_sized}
use Rattle.format_dns.proofs.labels.read_labels.Goals as goal

pub read_sized-requires-clause-says : goal.read_sized-requires-clause-says
read_sized-requires-clause-says g c = one_says _ c.one_of.result.set

pub returns : goal.returns
returns g c =
    reads_as (gathered_same _ (many_same _ (same_sized _ c.one_of.result.set (λ n. in_range
    (ap (λ s. s.start) c.one_of.ensures ∙ c.new.ensures.start)
    (ap (λ s. s.end) c.one_of.ensures ∙ c.new.ensures.end))))) c.read_sized.ensures
