use Rattle.std.specs.List.{All}
use Rattle.std.specs.Prelude.{take}
use Rattle.format_toml_tree.specs.Dates.{IsDigit}
use Rattle.format_toml_tree.proofs.times.count_digits.Given as goal

abbrev pub invariant-loop-place : goal.invariant-loop-place
invariant-loop-place l = All IsDigit (take l.place l.text)
