-- Loop invariant: no field so far is named Host.
use Rattle.std.proofs.Common.{◌≡◌, ◌++◌, List, length}
use Rattle.exported.specs.HttpFraming.{HasNoHost}
use Rattle.format_http_places.specs.declared.places.Field.{Field}
use Rattle.exported.proofs.http.framing.next_host.Given as goal

abbrev pub invariant-passed : goal.invariant-passed
invariant-passed l =
    (before : List Field) × (l.fields ≡ before ++ l.left) × HasNoHost l.bytes before

abbrev pub decreases-passed : goal.decreases-passed
decreases-passed l = length l.left
