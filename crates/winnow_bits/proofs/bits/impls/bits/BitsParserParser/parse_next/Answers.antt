use Rattle.std.proofs.Common.{sym}
use Rattle.stream_bits.specs.BitInput.{bits_input}
use Rattle.winnow_bits.specs.BitsOfBytes.Laws.{bits_failed, bits_took}
use Rattle.winnow_bits.proofs.bits.impls.bits.BitsParserParser.parse_next.Goals as goal

pub returns-else-not-is_possible-2-clause-ran : goal.returns-else-not-is_possible-2-clause-ran
returns-else-not-is_possible-2-clause-ran g c =
    bits_took g.I.Stream.reading g.P.Parser.does g.met.E.ErrorConvert.one_form
    (g.P.Parser.state c.args.self.now.parser) (g.P.Parser.state c.parse_next.new.self)
    (g.I.Stream.view c.args.input.now)
    (bits_input (g.I.Stream.view c.parse_next.new.input.0) c.parse_next.new.input.1)
    (sym c.if-not-is_possible.ensures) g.met.I.ByteStream.counts_bytes c.shows_bytes.ensures
    (g.met.I.ByteStream.stands_between c.args.input.now)
    (g.met.I.ByteStream.always_possible c.args.input.now) c.whole_bytes.ensures c.in-Ok.ensures.ran

pub returns-in-Err-clause-ran : goal.returns-in-Err-clause-ran
returns-in-Err-clause-ran g c =
    bits_failed g.I.Stream.reading g.P.Parser.does g.met.E.ErrorConvert.one_form
    (g.P.Parser.state c.args.self.now.parser) (g.P.Parser.state c.parse_next.new.self)
    (g.I.Stream.view c.args.input.now)
    (bits_input (g.I.Stream.view c.parse_next.new.input.0) c.parse_next.new.input.1)
    (sym c.if-not-is_possible.ensures) (g.E.HasKind.kind c.in-Err.error) c.in_bytes.ensures
    c.in-Err.ensures.ran
