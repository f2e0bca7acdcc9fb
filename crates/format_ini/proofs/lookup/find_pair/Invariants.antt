use Rattle.std.proofs.Common.{◌-◌, length}
use Rattle.format_ini.proofs.Passed.{SoFar}
use Rattle.format_ini.proofs.lookup.find_pair.Given as goal

abbrev pub invariant-entries : goal.invariant-entries
invariant-entries l = SoFar l.dialect l.bytes l.section l.key l.within l.reading

abbrev pub decreases-entries : goal.decreases-entries
decreases-entries l = length l.bytes - l.reading.offset
