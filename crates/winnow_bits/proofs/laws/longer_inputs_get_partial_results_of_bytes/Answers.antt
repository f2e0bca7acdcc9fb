use Rattle.parser_definitions.specs.BytesOfBits.{bytes_of_bits_law}
use Rattle.stream_bits.specs.BitReading.{bits_reading}
use Rattle.winnow_bits.specs.Longer.{WholeBytesCounted, same_on_longer_by, whole_bytes_stay}
use Rattle.winnow_bits.proofs.laws.longer_inputs_get_partial_results_of_bytes.Goals as goal

pub returns : goal.returns
returns g c = λ has premise stable.
    let reading = bits_reading g.I.Stream.reading in
    let law = g.met.P.Parser.lawful.law premise in
    same_on_longer_by reading WholeBytesCounted (bytes_of_bits_law reading law)
    (whole_bytes_stay reading law stable) has
