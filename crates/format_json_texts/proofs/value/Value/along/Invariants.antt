use Rattle.std.proofs.Common.{Option, drop}
use Rattle.format_json_texts.specs.Kinds.{IsFoundAlong}
use Rattle.format_json_texts.specs.declared.value.Value.{Value}
use Rattle.format_json_texts.proofs.value.Value.along.Given as goal

abbrev pub invariant-steps : goal.invariant-steps
invariant-steps g l =
    (found : Option (Value g.row.A.Denot)) → IsFoundAlong (drop l.step-index l.path) l.target found
    → IsFoundAlong l.path l.self found
