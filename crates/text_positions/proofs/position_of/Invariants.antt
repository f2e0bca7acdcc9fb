use Rattle.std.proofs.Common.{◌+◌, ◌≤◌, length}
use Rattle.text_positions.specs.Position.{IsPosition}
use Rattle.text_positions.proofs.position_of.Given as goal

abbrev pub invariant-loop-c : goal.invariant-loop-c
invariant-loop-c l = record {
  place : IsPosition l.yielded l.line l.column;
  bound : l.line + l.column ≤ length l.yielded + 2;
}
