use Rattle.std.specs.Int.{w8}
use Rattle.winnow_numbers.proofs.DecimalLemmas.{reads_signed}
use Rattle.winnow_numbers.proofs.ascii.int.I8Int.try_from_dec_int.Goals as goal

pub returns : goal.returns
returns c = reads_signed w8 _ _ _ c.ok.ensures.value c.parse.ensures.value.0
