use Rattle.winnow_core.specs.Longer.{same_on_longer}
use Rattle.winnow_grammar.proofs.laws.longer_inputs_get_partial_results.Goals as goal

pub returns : goal.returns
returns g c = λ has premise stable.
    same_on_longer g.I.Stream.reading (g.met.P.Parser.lawful.law premise) stable has
