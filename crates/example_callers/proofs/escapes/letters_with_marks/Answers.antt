use Rattle.example_callers.proofs.EscapeLemmas.{same_bytes}
use Rattle.example_callers.proofs.LongerLemmas.{result_wider}
use Rattle.example_callers.proofs.escapes.letters_with_marks.Goals as goal

pub returns : goal.returns
returns c = record { same = result_wider same_bytes c.call_both.ensures.same }
