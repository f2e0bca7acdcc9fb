use Rattle.std.specs.Prelude.{◌≡◌, string_bytes, take}
use Rattle.format_toml_tree.proofs.date_times.text_of.Given as goal

abbrev pub invariant-loop-digit : goal.invariant-loop-digit
invariant-loop-digit g l = string_bytes l.text ≡ take l.digit-index l.digits
