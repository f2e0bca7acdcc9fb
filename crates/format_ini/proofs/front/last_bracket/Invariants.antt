use Rattle.std.proofs.Common.{drop, length, ◌≤◌, ◌≡◌}
use Rattle.std.specs.List.{All}
use Rattle.format_ini.proofs.front.last_bracket.Given as goal

abbrev pub invariant-loop-left : goal.invariant-loop-left
invariant-loop-left l = record {
  within : l.left ≤ length l.bytes;
  none : All (λ b. b ≡ 93 → ⊥) (drop l.left l.bytes);
}

abbrev pub decreases-loop-left : goal.decreases-loop-left
decreases-loop-left l = l.left
