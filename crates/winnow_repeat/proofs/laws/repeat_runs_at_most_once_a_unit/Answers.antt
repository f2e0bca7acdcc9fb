use Rattle.winnow_repeat.proofs.RepetitionLaw.{runs_at_most_once_a_unit}
use Rattle.winnow_repeat.proofs.laws.repeat_runs_at_most_once_a_unit.Goals as goal

pub returns : goal.returns
returns g c = runs_at_most_once_a_unit g.I.Stream.reading g.P.Parser.does g.C.Accumulate.accumulator
