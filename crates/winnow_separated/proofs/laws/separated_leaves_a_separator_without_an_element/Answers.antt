use Rattle.winnow_separated.proofs.SeparatedLaw.{leaves_the_separator}
use Rattle.winnow_separated.proofs.laws.separated_leaves_a_separator_without_an_element.Goals as goal

pub returns : goal.returns
returns g c =
    leaves_the_separator g.P.Parser.does g.S.Parser.does g.C.Accumulate.accumulator
