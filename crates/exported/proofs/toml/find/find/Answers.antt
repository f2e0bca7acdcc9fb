use Rattle.exported.proofs.TomlFind.{slice_missing, slice_next}
use Rattle.exported.proofs.toml.find.find.Goals as goal

pub returns-in-None-clause-found : goal.returns-in-None-clause-found
returns-in-None-clause-found c =
    slice_missing c.args.names.now c.loop-name.invariant _ c.loop-name-test.true
    c.in-None.ensures.found

pub loop-name-preserved : goal.loop-name-preserved
loop-name-preserved c =
    slice_next c.args.names.now c.loop-name.invariant _ c.loop-name-test.true c.in-Some.found
    c.in-Some.ensures.within c.in-Some.ensures.found
