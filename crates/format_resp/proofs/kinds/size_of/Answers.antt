use Rattle.format_resp.proofs.kinds.size_of.Goals as goal

pub returns-in-Percent-clause-none : goal.returns-in-Percent-clause-none
returns-in-Percent-clause-none c = rw c.in-Percent.is c.half_of.ensures.none

pub returns-in-Bar-clause-none : goal.returns-in-Bar-clause-none
returns-in-Bar-clause-none c = rw c.in-Bar.is c.half_without_one.ensures.none
