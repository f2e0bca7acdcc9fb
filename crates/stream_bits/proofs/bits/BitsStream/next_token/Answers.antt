use Rattle.std.proofs.Common.{subst, List, Bool}
use Rattle.streams.specs.Input.{Passes}
use Rattle.stream_bits.specs.BitInput.{bits_input}
use Rattle.stream_bits.specs.BitReading.{bits_reading}
use Rattle.stream_bits.proofs.WithinLemmas.{one_bit_number}
use Rattle.stream_bits.proofs.bits.BitsStream.next_token.Goals as goal

pub returns-in_ok-number-clause-passes : goal.returns-in_ok-number-clause-passes
returns-in_ok-number-clause-passes g c =
    let reads = c.in_ok-number.ensures in
    let first = one_bit_number reads.bits c.in_ok-number.number reads.as_many reads.number in
    let P : List Bool → Type 0 = λ l. Passes (bits_reading g.I.Stream.reading) l
    (bits_input (g.I.Stream.view c.args.self.now.0) c.args.self.now.1)
    (bits_input (g.I.Stream.view c.next_of_byte.new.self.0) c.next_of_byte.new.self.1) in
    subst P first reads.passes
