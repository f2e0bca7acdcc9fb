use Rattle.winnow_token.specs.Elsewhere.{literal_from}
use Rattle.winnow_ascii.proofs.ascii.line_ends.tab.Goals as goal

pub returns : goal.returns
returns g c = record {
  ran = literal_from g.Input.Stream.reading 9 tt (g.Input.Compare.spells 9) (λ _. 9)
      g.Error.HasKind.form _ _ _ _ c.parse_next.ensures.ran;
}
