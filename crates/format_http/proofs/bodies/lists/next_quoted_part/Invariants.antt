-- Loop invariant: the bytes so far are of the first part.
use Rattle.std.specs.Prelude.{◌≡◌}
use Rattle.format_http.proofs.BodiesLemmas.Quoted.{IsRest}
use Rattle.format_http.proofs.bodies.lists.next_quoted_part.Given as goal

abbrev pub invariant-loop-byte : goal.invariant-loop-byte
invariant-loop-byte l = record {
  rest : IsRest l.list l.quoting l.byte-index;
  counts : l.passed ≡ l.byte-index;
}
