use Rattle.example_callers.proofs.WordRuns.{letters_told}
use Rattle.example_callers.proofs.functions.word.Goals as goal

pub returns-clause-letters : goal.returns-clause-letters
returns-clause-letters c = letters_told _ _ _ c.alpha1.result c.alpha1.ensures.ran
