use Rattle.std.proofs.Common.{◌-◌, length}
use Rattle.format_ini.specs.Places.{PassesIdle}
use Rattle.format_ini.proofs.places.next_placed.Given as goal

abbrev pub invariant-lines : goal.invariant-lines
invariant-lines l = PassesIdle l.dialect l.bytes l.initial.reading l.reading

abbrev pub decreases-lines : goal.decreases-lines
decreases-lines l = length l.bytes - l.reading.offset
