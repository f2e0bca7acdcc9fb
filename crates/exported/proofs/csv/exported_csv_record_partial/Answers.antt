use Rattle.std.proofs.Common.{arith, refl}
use Rattle.exported.proofs.csv.exported_csv_record_partial.Goals as goal

pub returns-in-Some-clause-record : goal.returns-in-Some-clause-record
returns-in-Some-clause-record c is d this =
    rw (c.in-Some.ensures.only.1 d this) at (c.read_partial.ensures.record is)

pub returns-in-Some-clause-small : goal.returns-in-Some-clause-small
returns-in-Some-clause-small c is d this =
    rw (c.in-Some.ensures.only.1 d this) at (c.read_partial.ensures.small is)

pub returns-in-Some-clause-incomplete : goal.returns-in-Some-clause-incomplete
returns-in-Some-clause-incomplete c is d this =
    rw (c.in-Some.ensures.only.1 d this) at (c.read_partial.ensures.incomplete is)

pub returns-in-Some-clause-impossible : goal.returns-in-Some-clause-impossible
returns-in-Some-clause-impossible c = (
  λ is. absurd (omega (arith, is, c.read_partial.ensures.codes)),
  λ none. absurd (none (c.in-Some.dialect, c.in-Some.ensures.only.0)),
)

pub returns-in-None-clause-impossible : goal.returns-in-None-clause-impossible
returns-in-None-clause-impossible c = (λ _. c.in-None.ensures.only, λ _. refl)

pub returns-in-Some-clause-refused : goal.returns-in-Some-clause-refused
returns-in-Some-clause-refused c is d this =
    let (never, first, _) = c.read_partial.ensures.refused is in
    (rw (c.in-Some.ensures.only.1 d this) at never, rw (c.in-Some.ensures.only.1 d this) at first)
