-- Loop invariant: the remaining bytes are expected in the state.
use Rattle.std.proofs.Common.{drop}
use Rattle.std.specs.Prelude.{◌↔◌}
use Rattle.format_http.specs.Heads.UriDues.{IsDue}
use Rattle.format_http.proofs.heads.uris.is_due.Given as goal

abbrev pub invariant-loop-byte : goal.invariant-loop-byte
invariant-loop-byte l =
    IsDue l.fn.of l.at (drop l.byte-index l.text) ↔ IsDue l.fn.of l.fn.start l.text
