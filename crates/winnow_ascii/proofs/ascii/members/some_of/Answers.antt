use Rattle.std.proofs.Common.{arith}
use Rattle.winnow_ascii.proofs.ClassLemmas.{least_ran}
use Rattle.winnow_ascii.proofs.ascii.members.some_of.Goals as goal

pub returns : goal.returns
returns g c = record {
  ran = least_ran g.S.ContainsToken.tells 1 g.I.Stream.seen_as g.I.Stream.reading
      g.E.HasKind.form _ _ _ _ _ _ _ (omega arith) c.take_while.ensures.occurrences
      c.take_while.ensures.set c.parse_next.ensures.ran;
}
