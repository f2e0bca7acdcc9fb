use Rattle.format_resp.proofs.LeafTexts.{same_line}
use Rattle.format_resp.proofs.MustAsk.{reads_both_ways, reads_if}
use Rattle.winnow_grammar.specs.Cut.{reads_or_asks_as}
use Rattle.format_resp.proofs.leaves.read_line.Goals as goal

pub returns : goal.returns
returns c = reads_both_ways (λ more. reads_or_asks_as same_line (reads_if c.line.ensures more))
