use Rattle.winnow_separated.proofs.FoldLaw.{fold_the_same, law_decides}
use Rattle.winnow_separated.proofs.laws.separated_folds_agree.Goals as goal

pub returns-clause-of_runs : goal.returns-clause-of_runs
returns-clause-of_runs g c =
    fold_the_same g.row.A.Denot (goal.H-step g) g.P.Parser.does g.S.Parser.does

pub returns-clause-of_outcomes : goal.returns-clause-of_outcomes
returns-clause-of_outcomes g c premise between at s =
    fold_the_same g.row.A.Denot (goal.H-step g) g.P.Parser.does g.S.Parser.does at s
    (law_decides (g.met.P.Parser.lawful.law premise) at s.0)
    (law_decides (g.met.S.Parser.lawful.law between) at s.1)
