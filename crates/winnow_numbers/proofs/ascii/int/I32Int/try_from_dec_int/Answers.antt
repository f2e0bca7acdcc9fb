use Rattle.std.specs.Int.{w32}
use Rattle.winnow_numbers.proofs.DecimalLemmas.{reads_signed}
use Rattle.winnow_numbers.proofs.ascii.int.I32Int.try_from_dec_int.Goals as goal

pub returns : goal.returns
returns c = reads_signed w32 _ _ _ c.ok.ensures.value c.parse.ensures.value.0
