use Rattle.example_callers.proofs.LongerLemmas.{same_fields}
use Rattle.example_callers.proofs.fields.bits_of_both.Goals as goal

pub returns : goal.returns
returns g c = record {
  same = same_fields
      (c.longer_inputs_get_partial_results_of_bits.ensures c.requires.modal c.requires.premise
      c.requires.stable _ _ _ _ _ c.requires.is_partial c.requires.readable
      c.parse_next-on_piece.ensures.ran)
      c.requires.one_state c.parse_next-on_longer.ensures.ran;
}
