use Rattle.winnow.specs.Wider.{same_wider}
use Rattle.example_callers.proofs.MarkLemmas.{marks_alike, steps_alike}
use Rattle.example_callers.proofs.marks.read_marks.Goals as goal

pub parse_cut-requires-clause-premise : goal.parse_cut-requires-clause-premise
parse_cut-requires-clause-premise g c = ((tt, steps_alike _ c.requires.once), tt)

pub returns-clause-same : goal.returns-clause-same
returns-clause-same g c =
    same_wider (marks_alike _ c.requires.once) c.parse_cut.ensures.same
