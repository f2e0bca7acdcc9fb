use Rattle.std.specs.Range.{range_inclusive_end, range_inclusive_start}
use Rattle.std.proofs.Common.{ap, ◌∙◌}
use Rattle.std.specs.Prelude.{None}
use Rattle.streams.specs.Text.{text_reading}
use Rattle.stream_sets.specs.Range.{from_to}
use Rattle.grammars.specs.Grammar.{Longest}
use Rattle.winnow_grammar.specs.Read.{reads_by}
use Rattle.winnow_core.specs.Exact.Same.{reads_as}
use Rattle.format_json_values.proofs.AlikeLemmas.{RangesTell}
use Rattle.format_json_values.proofs.RunsLemmas.{run_same}
use Rattle.format_json_values.proofs.string.read_plain.Goals as goal

pub returns : goal.returns
returns c =
    reads_as (run_same c.take_while.result.set
    (ap (λ s. range_inclusive_start s.0) c.take_while.ensures.set ∙ c.new.ensures.start)
    (ap (λ s. range_inclusive_end s.0) c.take_while.ensures.set ∙ c.new.ensures.end)
    (ap (λ s. range_inclusive_start s.1) c.take_while.ensures.set ∙ c.new-2.ensures.start)
    (ap (λ s. range_inclusive_end s.1) c.take_while.ensures.set ∙ c.new-2.ensures.end)
    (ap (λ s. range_inclusive_start s.2) c.take_while.ensures.set ∙ c.new-3.ensures.start)
    (ap (λ s. range_inclusive_end s.2) c.take_while.ensures.set ∙ c.new-3.ensures.end))
    (reads_by
    {h = Longest text_reading (λ c. c) RangesTell c.take_while.result.set (from_to 0 None)}
    c.read.ensures.reads (rw (c.take_while.ensures.occurrences)))
