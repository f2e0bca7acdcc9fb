use Rattle.std.specs.Prelude.{◌≡◌, ℕ, List}
use Rattle.std.specs.Borrow.{Bor}
use Rattle.std.proofs.Common.{sym, ◌∙◌}
use Rattle.winnow.specs.Crlf.Inversion.{text_spells}
use Rattle.winnow.specs.Spelled.{ShowSame}
use Rattle.winnow.specs.Text.{text_reading}
use Rattle.winnow.specs.TillLineEnding.Inversion.{text_seeks}
use Rattle.winnow.specs.TillLineEnding.Laws.{seeks_some, spells_one}
use Rattle.winnow.specs.Wider.{same_wider}
use Rattle.example_callers.proofs.first_line.first_line_partial.Goals as goal

same_text : (v w : Bor (List ℕ)) → ShowSame text_reading v w → v.now ≡ w.now
same_text v w (front, shown, also) = shown ∙ sym also

pub parse_cut-requires-clause-stable : goal.parse_cut-requires-clause-stable
parse_cut-requires-clause-stable c = (seeks_some text_seeks, spells_one text_spells)

pub returns : goal.returns
returns c = record { same = same_wider same_text c.parse_cut.ensures.same }
