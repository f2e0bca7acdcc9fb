use Rattle.readers.proofs.program.run.Goals as goal

pub returns-clause-answered : goal.returns-clause-answered
returns-clause-answered g c format word =
    (c.run_and_tell.result.is_told, c.run_and_tell.ensures.answered format word)
