use Rattle.std.proofs.Common.{arith}
use Rattle.exported.proofs.JsonNodes.{none_there}
use Rattle.exported.proofs.json.lookup.is_name.Goals as goal

pub returns-in-None-compare-clause-none : goal.returns-in-None-compare-clause-none
returns-in-None-compare-clause-none c = (
  omega (arith, c.if-node-ne-JSON_NAME.false),
  none_there _ _ c.in-Some.ensures.lookup.0.0 c.in-Some.ensures.lookup.0.2
      c.in-None-compare.ensures,
)
