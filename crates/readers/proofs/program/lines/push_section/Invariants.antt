-- The lines so far and those of the pairs that are left are all lines.
use Rattle.std.proofs.Common.{◌≡◌, ◌++◌, drop}
use Rattle.std.specs.Prelude.{map}
use Rattle.readers.specs.Program.{pair_lines}
use Rattle.readers.specs.Sections.{pair_text}
use Rattle.readers.proofs.program.lines.push_section.Given as goal

abbrev pub invariant-loop-key : goal.invariant-loop-key
invariant-loop-key g l =
    l.lines.items ++ pair_lines (map pair_text (drop l.key-index l.key-items))
    ≡ l.initial.lines.items ++ pair_lines (map pair_text l.key-items)
