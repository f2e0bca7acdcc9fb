-- The digits times ten, once for each zero that was passed.
use Rattle.std.proofs.Common.{◌+◌, ◌-◌, ◌≡◌, ◌*◌, ◌≤◌, ◌^◌}
use Rattle.format_json_texts.proofs.digits.push.Given as goal

abbrev pub invariant-places : goal.invariant-places
invariant-places l = (l.digits ≡ l.read.digits * 10 ^ l.places) × (l.places ≤ l.read.zeros + 1)

abbrev pub decreases-places : goal.decreases-places
decreases-places l = l.read.zeros + 1 - l.places
