use Rattle.std.proofs.Common.{true}
use Rattle.parser_definitions.specs.Number.{signed_numbers}
use Rattle.winnow_numbers.proofs.LeftLemmas.{back_to, passes_from}
use Rattle.winnow_numbers.proofs.NumberLemmas.{int_read, int_refused, no_numeral, numeral_of}
use Rattle.winnow_numbers.proofs.NumberLemmas.{numeral_utf8}
use Rattle.winnow_numbers.proofs.ascii.int.any_int.Goals as goal

pub int_of-requires : goal.int_of-requires
int_of-requires g c =
    numeral_utf8 g.I.Stream.seen_as g.I.Token.AsChar.code g.I.Stream.reading
    g.I.SlicesAsBytes.bytes_of g.I.SlicesAsBytes.bytes_add g.met.I.SlicesAsBytes.ascii_byte
    g.E.HasKind.form _ _ c.in-Ok.slice _ (g.met.I.SlicesAsBytes.has_bytes c.in-Ok.slice) true
    c.in-Ok.ensures.ran

pub returns-in-Some : goal.returns-in-Some
returns-in-Some g c = record {
  ran =
      int_read g.I.Stream.seen_as g.I.Token.AsChar.code g.I.Stream.reading
      g.I.SlicesAsBytes.bytes_of g.I.SlicesAsBytes.bytes_add g.met.I.SlicesAsBytes.ascii_byte
      g.E.HasKind.form _ _ c.in-Ok.slice _ (g.met.I.SlicesAsBytes.has_bytes c.in-Ok.slice)
      g.N.Int.number g.N.Int.fits c.in-Some.number c.in-Ok.ensures.ran c.in-Some.ensures;
}

pub returns-in-Ok : goal.returns-in-Ok
returns-in-Ok g c = record {
  ran =
      let (front, sign, digits, has, shown, passed, chars) =
      numeral_of g.I.Stream.seen_as g.I.Token.AsChar.code g.I.Stream.reading true g.E.HasKind.form
      _ c.in-Ok.slice _ c.in-Ok.ensures.ran in
      int_refused g.I.Stream.seen_as g.I.Token.AsChar.code g.I.Stream.reading
      g.I.SlicesAsBytes.bytes_of g.I.SlicesAsBytes.bytes_add g.met.I.SlicesAsBytes.ascii_byte
      g.E.HasKind.form _ _ c.in-Ok.slice _ (g.met.I.SlicesAsBytes.has_bytes c.in-Ok.slice)
      g.N.Int.number g.N.Int.fits _ _ c.from_input.ensures
      (back_to (g.I.Stream.view c.args.input.now) (g.I.Stream.view c.take_numeral.new.input) _ _
      c.checkpoint-start.ensures
      (passes_from (g.I.Stream.view c.args.input.now) (g.I.Stream.view c.take_numeral.new.input)
      passed c.in-Ok.ensures.ran.1 c.in-Ok.ensures.ran.2).status c.reset.ensures)
      c.in-Ok.ensures.ran c.in-None.ensures;
}

pub returns : goal.returns
returns g c = record {
  ran =
      no_numeral g.I.Stream.seen_as g.I.Token.AsChar.code g.I.Stream.reading
      (signed_numbers g.N.Int.number g.N.Int.fits) g.E.HasKind.form _ _ _ c.in-Err.ensures.ran;
}
