use Rattle.std.proofs.Common.{ap, map}
use Rattle.winnow.specs.AltMany.{ChoiceDoes}
use Rattle.example_callers.proofs.ChoiceLemmas.{by_ref_ran}
use Rattle.example_callers.proofs.choices.choose_among.Goals as goal

pub returns : goal.returns
returns g c = (
  _,
  by_ref_ran g.I.Stream.reading (ChoiceDoes g.P.Parser.does) g.E.HasKind.form _ _ _ _ _
      c.parse_next.ensures.ran (ap (λ b. map g.P.Parser.state b.now) c.alt.ensures),
)
