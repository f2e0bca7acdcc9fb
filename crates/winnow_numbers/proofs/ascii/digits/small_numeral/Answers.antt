use Rattle.winnow_numbers.proofs.FirstNumeral.{bounded, numeral_ran, numeral_status}
use Rattle.winnow_numbers.proofs.ascii.digits.small_numeral.Goals as goal

pub next_slice-requires : goal.next_slice-requires
next_slice-requires g c =
    bounded g.I.Stream.seen_as g.I.Token.AsChar.code g.I.Stream.reading
    g.I.SlicesAsBytes.bytes_of g.I.SlicesAsBytes.bytes_add g.met.I.SlicesAsBytes.ascii_byte
    g.met.I.SlicesAsBytes.first_byte g.met.I.SlicesAsBytes.units_bytes
    _ _ c.in-Some.length c.in-Some.number c.in-Some.ensures.same c.in-Some.ensures.begins

pub returns-in-Some-clause-ran : goal.returns-in-Some-clause-ran
returns-in-Some-clause-ran g c =
    numeral_ran g.I.Stream.seen_as g.I.Token.AsChar.code g.I.Stream.reading
    g.I.SlicesAsBytes.bytes_of g.I.SlicesAsBytes.bytes_add g.met.I.SlicesAsBytes.ascii_byte
    g.met.I.SlicesAsBytes.first_byte g.met.I.SlicesAsBytes.units_bytes
    _ _ _ _ c.in-Some.length c.in-Some.number c.in-Some.ensures.same
    c.in-Some.ensures.begins c.next_slice.ensures.cuts

pub returns-in-Some-clause-status : goal.returns-in-Some-clause-status
returns-in-Some-clause-status g c =
    numeral_status g.I.Stream.seen_as g.I.Token.AsChar.code g.I.Stream.reading
    g.I.SlicesAsBytes.bytes_of g.I.SlicesAsBytes.bytes_add g.met.I.SlicesAsBytes.ascii_byte
    g.met.I.SlicesAsBytes.first_byte g.met.I.SlicesAsBytes.units_bytes
    _ _ _ _ c.in-Some.length c.in-Some.number c.in-Some.ensures.same
    c.in-Some.ensures.begins c.next_slice.ensures.cuts
