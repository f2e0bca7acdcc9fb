use Rattle.stream_bits.specs.BitInput.{bits_input}
use Rattle.winnow_bits.specs.BytesOfBits.Laws.{bytes_failed, bytes_took}
use Rattle.winnow_bits.proofs.bits.impls.bytes.BytesParserBits.parse_next.Goals as goal

pub returns-in-Ok-clause-ran : goal.returns-in-Ok-clause-ran
returns-in-Ok-clause-ran g c =
    bytes_took g.I.Stream.reading g.P.Parser.does g.met.E.ErrorConvert.one_form
    (g.P.Parser.state c.args.self.now.parser) (g.P.Parser.state c.parse_next.new.self)
    (bits_input (g.I.Stream.view c.args.input.now.0) c.args.input.now.1)
    (g.I.Stream.view c.whole_bytes-bytes.result) (g.I.Stream.view c.parse_next.new.input)
    c.whole_bytes-bytes.ensures g.met.I.ByteStream.counts_bytes c.in-Ok.ensures.ran

pub returns-in-Err-clause-ran : goal.returns-in-Err-clause-ran
returns-in-Err-clause-ran g c =
    bytes_failed g.I.Stream.reading g.P.Parser.does g.met.E.ErrorConvert.one_form
    (g.P.Parser.state c.args.self.now.parser) (g.P.Parser.state c.parse_next.new.self)
    (bits_input (g.I.Stream.view c.args.input.now.0) c.args.input.now.1)
    (g.I.Stream.view c.whole_bytes-bytes.result) (g.I.Stream.view c.parse_next.new.input)
    c.whole_bytes-bytes.ensures (g.E.HasKind.kind c.in-Err.error) c.in_bits.ensures
    c.in-Err.ensures.ran
