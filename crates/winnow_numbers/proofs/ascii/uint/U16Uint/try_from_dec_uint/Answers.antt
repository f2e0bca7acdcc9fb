use Rattle.winnow_numbers.proofs.DecimalLemmas.{reads_unsigned}
use Rattle.winnow_numbers.proofs.ascii.uint.U16Uint.try_from_dec_uint.Goals as goal

pub returns : goal.returns
returns c = reads_unsigned 16 _ _ _ c.ok.ensures.value c.parse.ensures.value.0
