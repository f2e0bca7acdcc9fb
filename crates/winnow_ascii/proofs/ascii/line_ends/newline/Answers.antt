use Rattle.winnow_token.specs.Elsewhere.{literal_from}
use Rattle.winnow_ascii.proofs.ascii.line_ends.newline.Goals as goal

pub returns : goal.returns
returns g c = record {
  ran = literal_from g.Input.Stream.reading 10 tt (g.Input.Compare.spells 10) (λ _. 10)
      g.Error.HasKind.form _ _ _ _ c.parse_next.ensures.ran;
}
