use Rattle.std.proofs.Common.{refl, [], ◌∷◌}
use Rattle.winnow_ascii.proofs.LineEndLemmas.{text_ran}
use Rattle.winnow_ascii.proofs.ascii.line_ends.crlf.Goals as goal

pub returns : goal.returns
returns g c = record {
  ran = text_ran g.Input.Stream.reading g.Input.Compare.spells (13 ∷ 10 ∷ []) g.Error.HasKind.form
      _ _ _ _ refl c.take_literal.ensures.ran;
}
