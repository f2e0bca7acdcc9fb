use Rattle.std.proofs.Common.{ap}
use Rattle.winnow.specs.Range.{bounds_of}
use Rattle.examples.proofs.LinesLemmas.{lines_of, lines_one, same_lines}
use Rattle.winnow.specs.Exact.Whole.{reads_all_as}
use Rattle.winnow.specs.Back.{reads_back}
use Rattle.winnow.specs.Told.{texts_told}
use Rattle.examples.proofs.lines.parse_lines.Goals as goal

pub returns-clause-grammar : goal.returns-clause-grammar
returns-clause-grammar g c =
    reads_all_as (same_lines _ (ap bounds_of c.repeat.ensures.occurrences))
    c.read_all.ensures.reads

pub returns-clause-text : goal.returns-clause-text
returns-clause-text g c = texts_told lines_of tt (reads_all_as
    (same_lines _ (ap bounds_of c.repeat.ensures.occurrences))
    c.read_all.ensures.reads)

pub returns-clause-back : goal.returns-clause-back
returns-clause-back g c = reads_back lines_one (texts_told lines_of tt (reads_all_as
    (same_lines _ (ap bounds_of c.repeat.ensures.occurrences))
    c.read_all.ensures.reads))
