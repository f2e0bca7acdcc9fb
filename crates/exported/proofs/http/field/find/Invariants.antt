-- Loop invariant: no field so far has the name.
use Rattle.std.proofs.Common.{◌≡◌, take}
use Rattle.exported.specs.HttpField.{HasNo}
use Rattle.exported.proofs.http.field.find.Given as goal

abbrev pub invariant-loop-field : goal.invariant-loop-field
invariant-loop-field l = record {
  counted : l.passed ≡ l.field-index;
  none : HasNo l.bytes l.name (take l.field-index l.fields);
}
