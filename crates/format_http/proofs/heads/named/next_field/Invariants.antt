-- Fields of other names were passed.
use Rattle.std.proofs.Common.{take, ◌≡◌}
use Rattle.format_http.specs.Heads.Named.{HasNo}
use Rattle.format_http.proofs.heads.named.next_field.Given as goal

abbrev pub invariant-loop-field : goal.invariant-loop-field
invariant-loop-field l = record {
  count : l.passed ≡ l.field-index;
  none : HasNo l.name (take l.field-index l.fields);
}
