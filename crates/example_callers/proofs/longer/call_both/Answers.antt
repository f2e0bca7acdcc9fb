use Rattle.example_callers.proofs.LongerLemmas.{same_result}
use Rattle.example_callers.proofs.longer.call_both.Goals as goal

pub returns : goal.returns
returns g c = record {
  same = same_result c.parse_cut-on_piece.ensures.same c.requires.one_state
      c.parse_next-on_longer.ensures.ran;
}
