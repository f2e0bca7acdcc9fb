use Rattle.std.proofs.Common.{arith, refl}
use Rattle.exported.proofs.csv.extent.exported_csv_record_extent.Goals as goal

pub returns-in-Some-clause-impossible : goal.returns-in-Some-clause-impossible
returns-in-Some-clause-impossible c = (
  λ is. absurd (omega (arith, is, c.find_end.ensures.codes)),
  λ none. absurd (none (c.in-Some.dialect, c.in-Some.ensures.only.0)),
)

pub returns-in-None-clause-impossible : goal.returns-in-None-clause-impossible
returns-in-None-clause-impossible c = (λ _. c.in-None.ensures.only, λ _. refl)

pub returns-in-Some-clause-told : goal.returns-in-Some-clause-told
returns-in-Some-clause-told c d this =
    rw (c.in-Some.ensures.only.1 d this) at c.find_end.ensures.told

pub returns-in-Some-clause-kept : goal.returns-in-Some-clause-kept
returns-in-Some-clause-kept c is = absurd (omega (arith, is, c.find_end.ensures.codes))

pub returns-in-None-clause-told : goal.returns-in-None-clause-told
returns-in-None-clause-told c d this _ = absurd (c.in-None.ensures.only (d, this))

pub returns-in-None-clause-within : goal.returns-in-None-clause-within
returns-in-None-clause-within c = (
  omega (arith, c.none_at.ensures.sizes.2),
  omega (arith, c.none_at.ensures.place),
)
