use Rattle.std.proofs.Common.{inl}
use Rattle.format_csv_records.proofs.Finding.{sized_good}
use Rattle.format_csv_records.proofs.finds.look.Goals as goal

pub returns-in-Ok-Some-clause-kept : goal.returns-in-Ok-Some-clause-kept
returns-in-Ok-Some-clause-kept c = c.in-Ok-Some.ensures.kept c.requires

pub returns-in-Ok-Some-clause-found : goal.returns-in-Ok-Some-clause-found
returns-in-Ok-Some-clause-found c =
    let (sized, ended) = rw c.in-Ok-Some.field-0-is at (c.in-Ok-Some.ensures.told c.requires) in
    inl (sized_good _ _ _ sized ended)

pub returns-in-Ok-None-clause-kept : goal.returns-in-Ok-None-clause-kept
returns-in-Ok-None-clause-kept c = c.in-Ok-None.ensures.kept c.requires

pub returns-in-Ok-None-clause-found : goal.returns-in-Ok-None-clause-found
returns-in-Ok-None-clause-found c =
    rw c.in-Ok-None.field-0-is at (c.in-Ok-None.ensures.told c.requires)

pub returns-in-Err-clause-kept : goal.returns-in-Err-clause-kept
returns-in-Err-clause-kept c = c.in-Err.ensures.kept c.requires

pub returns-in-Err-clause-found : goal.returns-in-Err-clause-found
returns-in-Err-clause-found c = c.in-Err.ensures.told c.requires
