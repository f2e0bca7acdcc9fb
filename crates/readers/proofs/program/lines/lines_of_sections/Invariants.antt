-- The lines so far and those of the sections that are left are all lines.
use Rattle.std.proofs.Common.{◌≡◌, ◌++◌, drop}
use Rattle.std.specs.Prelude.{map}
use Rattle.readers.specs.Program.{document_lines}
use Rattle.readers.specs.Sections.{section_text}
use Rattle.readers.proofs.program.lines.lines_of_sections.Given as goal

abbrev pub invariant-loop-section : goal.invariant-loop-section
invariant-loop-section g l =
    l.lines.items ++ document_lines (map section_text (drop l.section-index l.sections))
    ≡ document_lines (map section_text l.sections)
