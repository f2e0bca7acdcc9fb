use Rattle.std.proofs.Common.{ap}
use Rattle.winnow.specs.Range.{bounds_of}
use Rattle.examples.proofs.LinesLemmas.{lines_of, same_lines}
use Rattle.winnow.specs.Exact.Same.{reads_as}
use Rattle.winnow.specs.Told.{text_told}
use Rattle.examples.proofs.lines.read_lines.Goals as goal

pub returns-clause-grammar : goal.returns-clause-grammar
returns-clause-grammar g c =
    reads_as (same_lines _ (ap bounds_of c.repeat.ensures.occurrences))
    c.read.ensures.reads

pub returns-clause-text : goal.returns-clause-text
returns-clause-text g c = text_told lines_of (reads_as
    (same_lines _ (ap bounds_of c.repeat.ensures.occurrences))
    c.read.ensures.reads)
