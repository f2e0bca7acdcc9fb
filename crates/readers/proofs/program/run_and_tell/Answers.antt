use Rattle.std.proofs.Common.{refl}
use Rattle.readers.proofs.Owed.{limit_by_word, owed_by_word, stopped_by_word}
use Rattle.readers.proofs.program.run_and_tell.Goals as goal

pub returns-in_default-clause-answered : goal.returns-in_default-clause-answered
returns-in_default-clause-answered g c format word = absurd (c.in_default.ensures format word)

pub returns-in-Ok-clause-usage : goal.returns-in-Ok-clause-usage
returns-in-Ok-clause-usage g c none =
    absurd (none c.in-Some.format ((c.in-Some.ensures c.in-Some.format).1 refl))

pub returns-in-Ok-clause-answered : goal.returns-in-Ok-clause-answered
returns-in-Ok-clause-answered g c format word =
    owed_by_word _ _ _ _ _ _ _ _ _ _ _ ((c.in-Some.ensures format).0 word) c.in-Ok.ensures.bytes
    c.write_answer.ensures

pub returns-in-Err-clause-usage : goal.returns-in-Err-clause-usage
returns-in-Err-clause-usage g c none =
    absurd (none c.in-Some.format ((c.in-Some.ensures c.in-Some.format).1 refl))

pub returns-in-Err-clause-answered : goal.returns-in-Err-clause-answered
returns-in-Err-clause-answered g c format word =
    stopped_by_word c.in-Some.format format _ c.in-Err.stop _ _ _ _ _
    ((c.in-Some.ensures format).0 word) c.in-Err.ensures.bytes c.stopped-in-Err.ensures.status
    c.stopped-in-Err.ensures.told

pub returns-in-Ok-clause-limit : goal.returns-in-Ok-clause-limit
returns-in-Ok-clause-limit g c format word =
    limit_by_word c.in-Some.format format _ _ ((c.in-Some.ensures format).0 word)
    c.in-Ok.ensures.limit

pub returns-in-Err-clause-limit : goal.returns-in-Err-clause-limit
returns-in-Err-clause-limit g c format word =
    limit_by_word c.in-Some.format format _ _ ((c.in-Some.ensures format).0 word)
    c.in-Err.ensures.limit
