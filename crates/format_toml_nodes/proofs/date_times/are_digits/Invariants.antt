use Rattle.std.proofs.Common.{take}
use Rattle.std.specs.List.{All}
use Rattle.format_toml_tree.specs.Dates.{IsDigit}
use Rattle.format_toml_nodes.proofs.date_times.are_digits.Given as goal

-- the bytes so far are digits
abbrev pub invariant-loop-byte : goal.invariant-loop-byte
invariant-loop-byte l = All IsDigit (take l.byte-index l.text)
