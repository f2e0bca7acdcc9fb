-- The entries of the sections so far.
use Rattle.std.proofs.Common.{◌≡◌, map, take}
use Rattle.readers.specs.Sections.{pair_text, section_text}
use Rattle.exported.specs.Pairs.{entries_of}
use Rattle.exported.proofs.pairs.entries.entries_of.Given as goal

abbrev pub invariant-loop-number : goal.invariant-loop-number
invariant-loop-number l =
    map pair_text l.found.items ≡ entries_of (map section_text (take l.number l.sections))
