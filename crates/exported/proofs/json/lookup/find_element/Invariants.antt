-- Loop invariant: so many elements precede this one.
use Rattle.std.proofs.Common.{◌-◌, ◌≤◌}
use Rattle.exported.specs.JsonNodes.{PassesElements}
use Rattle.exported.proofs.json.lookup.find_element.Given as goal

abbrev pub invariant-elements : goal.invariant-elements
invariant-elements l = record {
  passes : PassesElements l.nodes l.index l.after l.at l.passed;
  few : l.passed ≤ l.position;
}

abbrev pub decreases-elements : goal.decreases-elements
decreases-elements l = l.after - l.at
