use Rattle.std.proofs.Common.{arith}
use Rattle.exported.proofs.csv.write.exported_csv_write.Goals as goal

pub returns-in-Some-clause-line : goal.returns-in-Some-clause-line
returns-in-Some-clause-line c is d this =
    rw (c.in-Some.ensures.only.1 d this) at (c.write_record.ensures.line is)

pub returns-in-Some-clause-small : goal.returns-in-Some-clause-small
returns-in-Some-clause-small c is d this =
    rw (c.in-Some.ensures.only.1 d this) at (c.write_record.ensures.small is)

pub returns-in-Some-clause-impossible : goal.returns-in-Some-clause-impossible
returns-in-Some-clause-impossible c = (
  λ is. absurd (omega (arith, is, c.write_record.ensures.codes)),
  λ none. absurd (none (c.in-Some.dialect, c.in-Some.ensures.only.0)),
)
