use Rattle.winnow_numbers.proofs.NumberLemmas.{signed_some}
use Rattle.winnow_numbers.proofs.ascii.int.small_int.Goals as goal

pub returns-clause-ran : goal.returns-clause-ran
returns-clause-ran g c =
    signed_some g.I.Stream.seen_as g.I.Token.AsChar.code g.I.Stream.reading
    (g.I.Stream.view c.args.input.now) (g.I.Stream.view c.first_sign-sign.new.input)
    (g.I.Stream.view c.small_numeral.new.input) c.first_sign-sign.result _
    c.with_sign.result c.first_sign-sign.ensures.status c.first_sign-sign.ensures.ran
    c.in_ok-number.ensures.ran
    c.with_sign.ensures
