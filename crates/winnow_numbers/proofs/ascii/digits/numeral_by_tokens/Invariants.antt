use Rattle.winnow_numbers.proofs.DigitLemmas.{DigitsPassed}
use Rattle.winnow_numbers.proofs.ascii.digits.numeral_by_tokens.Given as goal

abbrev pub invariant-loop-token : goal.invariant-loop-token
invariant-loop-token g l =
    DigitsPassed g.I.Stream.seen_as g.I.Token.AsChar.code g.I.Stream.reading
    (g.I.Stream.view l.fn.input) (g.I.Stream.view l.input) l.number

abbrev pub decreases-loop-token : goal.decreases-loop-token
decreases-loop-token g l = g.I.Stream.reading.units (g.I.Stream.view l.input).left.tokens
