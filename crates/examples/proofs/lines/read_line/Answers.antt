use Rattle.examples.proofs.LinesLemmas.{reads_line}
use Rattle.examples.proofs.lines.read_line.Goals as goal

pub returns : goal.returns
returns c = reads_line c.read.ensures.reads
    (rw (c.terminated.ensures.parser, c.terminated.ensures.ignored, c.alt.ensures))
