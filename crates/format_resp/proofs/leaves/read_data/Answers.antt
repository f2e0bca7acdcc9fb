use Rattle.format_resp.proofs.LeafTexts.{same_data}
use Rattle.format_resp.proofs.MustAsk.{reads_both_ways, reads_if}
use Rattle.winnow_grammar.specs.Cut.{reads_or_asks_as}
use Rattle.format_resp.proofs.leaves.read_data.Goals as goal

pub returns : goal.returns
returns c = reads_both_ways
    (λ more. reads_or_asks_as (same_data c.args.size) (reads_if c.tokens.ensures more))
