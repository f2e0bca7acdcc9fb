-- Loop invariant: the remaining bytes are expected in the state.
use Rattle.std.proofs.Common.{drop}
use Rattle.std.specs.Prelude.{◌↔◌}
use Rattle.format_http.specs.Bodies.Codings.{IsCoding}
use Rattle.format_http.specs.Bodies.Dues.{IsDue}
use Rattle.format_http.proofs.bodies.coding.is_coding.Given as goal

abbrev pub invariant-loop-byte : goal.invariant-loop-byte
invariant-loop-byte l = IsDue l.at (drop l.byte-index l.coding) ↔ IsCoding l.coding
