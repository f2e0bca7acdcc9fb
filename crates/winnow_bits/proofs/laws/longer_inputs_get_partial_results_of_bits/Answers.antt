use Rattle.parser_definitions.specs.BitsOfBytes.{bits_of_bytes_law, bits_stay}
use Rattle.winnow_bits.specs.Longer.{BytesCounted, same_on_longer_by}
use Rattle.winnow_bits.proofs.laws.longer_inputs_get_partial_results_of_bits.Goals as goal

pub returns : goal.returns
returns g c = λ has premise stable.
    let law = g.met.P.Parser.lawful.law premise in
    same_on_longer_by g.I.Stream.reading BytesCounted (bits_of_bytes_law g.I.Stream.reading law)
    (bits_stay g.I.Stream.reading law stable) has
