use Rattle.format_csv.proofs.read_lists.Goals as goal

pub returns-in-Ok : goal.returns-in-Ok
returns-in-Ok g c = rw c.dialect_of.ensures at c.in-Ok.ensures

pub returns : goal.returns
returns g c = rw c.dialect_of.ensures at c.in-Err.ensures
