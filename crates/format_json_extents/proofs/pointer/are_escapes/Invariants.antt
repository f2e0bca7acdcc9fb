-- Loop invariant: all tildes begin an escape if and only if those from here on do.
use Rattle.std.proofs.Common.{◌↔◌, length}
use Rattle.format_json_extents.specs.Pointer.{AreEscapes}
use Rattle.format_json_extents.proofs.pointer.are_escapes.Given as goal

abbrev pub invariant-escapes : goal.invariant-escapes
invariant-escapes l = AreEscapes l.bytes ↔ AreEscapes l.rest

abbrev pub decreases-escapes : goal.decreases-escapes
decreases-escapes l = length l.rest
