-- All bytes are digits where those that are left are.
use Rattle.std.proofs.Common.{length}
use Rattle.std.specs.List.{AllByRecursion}
use Rattle.std.specs.Prelude.{◌↔◌}
use Rattle.format_http.specs.Heads.Bytes.{IsDigit}
use Rattle.format_http.proofs.bodies.fields.is_number.Given as goal

abbrev pub invariant-bytes : goal.invariant-bytes
invariant-bytes l = AllByRecursion IsDigit l.left ↔ AllByRecursion IsDigit l.value

abbrev pub decreases-bytes : goal.decreases-bytes
decreases-bytes l = length l.left
