use Rattle.std.proofs.Common.{◌≡◌, drop, length}
use Rattle.format_http_places.proofs.FieldLines.{SoFar}
use Rattle.format_http_places.proofs.fields.read_fields.Given as goal

abbrev pub invariant-fields : goal.invariant-fields
invariant-fields l = record {
  so_far : SoFar l.fn.whole l.bytes l.rest l.fields l.count;
  behind : drop l.count l.fields ≡ drop l.count l.fn.fields;
}

abbrev pub decreases-fields : goal.decreases-fields
decreases-fields l = length l.rest
