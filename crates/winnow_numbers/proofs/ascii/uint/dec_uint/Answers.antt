use Rattle.parser_definitions.specs.Number.{unsigned_numbers}
use Rattle.winnow_numbers.proofs.LeftLemmas.{back_to}
use Rattle.winnow_numbers.proofs.NumberLemmas.{again, uint_passed}
use Rattle.winnow_numbers.proofs.ascii.uint.dec_uint.Goals as goal

pub returns-in-Some-try_from_number : goal.returns-in-Some-try_from_number
returns-in-Some-try_from_number g c = record {
  ran =
      uint_passed g.Input.Stream.seen_as g.Input.Token.AsChar.code g.Input.Stream.reading
      g.Output.Uint.number g.Output.Uint.bound g.Error.HasKind.form _ _ _ _
      c.in-Some.ensures.ends c.in-Some.ensures.ran c.in-Some-try_from_number.ensures;
}

pub returns : goal.returns
returns g c = record {
  ran =
      again g.Input.Stream.seen_as g.Input.Token.AsChar.code g.Input.Stream.reading
      (unsigned_numbers g.Output.Uint.number g.Output.Uint.bound) g.Error.HasKind.form _ _ _ _
      (back_to (g.Input.Stream.view c.args.input.now)
      (g.Input.Stream.view c.small_numeral.new.input) _ _
      c.checkpoint-start.ensures c.small_numeral.ensures.status c.reset.ensures)
      c.any_uint.ensures.ran;
}
