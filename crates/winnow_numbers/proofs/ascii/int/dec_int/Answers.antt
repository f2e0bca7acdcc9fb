use Rattle.std.proofs.Common.{rules}
use Rattle.parser_definitions.specs.Number.{signed_numbers}
use Rattle.winnow_numbers.proofs.LeftLemmas.{back_to}
use Rattle.winnow_numbers.proofs.NumberLemmas.{again, int_passed}
use Rattle.winnow_numbers.proofs.ascii.int.dec_int.Goals as goal

pub returns-in-Some-try_from_number : goal.returns-in-Some-try_from_number
returns-in-Some-try_from_number g c = record {
  ran =
      int_passed g.Input.Stream.seen_as g.Input.Token.AsChar.code g.Input.Stream.reading
      g.Output.Int.number g.Output.Int.fits g.Error.HasKind.form _ _ c.in-Some.number _ _
      c.in-Some.ensures.ends c.in-Some.ensures.ran (search rules depth 1)
      c.in-Some-try_from_number.ensures;
}

pub returns : goal.returns
returns g c = record {
  ran =
      again g.Input.Stream.seen_as g.Input.Token.AsChar.code g.Input.Stream.reading
      (signed_numbers g.Output.Int.number g.Output.Int.fits) g.Error.HasKind.form _ _ _ _
      (back_to (g.Input.Stream.view c.args.input.now)
      (g.Input.Stream.view c.small_int.new.input) _ _
      c.checkpoint-start.ensures c.small_int.ensures.status c.reset.ensures)
      c.any_int.ensures.ran;
}
