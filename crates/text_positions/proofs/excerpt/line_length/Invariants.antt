use Rattle.std.proofs.Common.{◌≤◌, ◌-◌, length}
use Rattle.std.specs.List.{AllWithin}
use Rattle.text_positions.specs.Position.{IsWithinLine}
use Rattle.text_positions.proofs.excerpt.line_length.Given as goal

abbrev pub invariant-loop-length : goal.invariant-loop-length
invariant-loop-length l = record {
  bound : l.length ≤ length l.behind;
  passed : AllWithin IsWithinLine l.behind 0 l.length;
}

abbrev pub decreases-loop-length : goal.decreases-loop-length
decreases-loop-length l = length l.behind - l.length
