-- Loop invariant: the tokens before here lead to the value here.
use Rattle.std.proofs.Common.{length}
use Rattle.format_json_extents.specs.Pointer.{IsRooted, Reaches}
use Rattle.format_json_extents.proofs.pointer.find_value.Given as goal

abbrev pub invariant-tokens : goal.invariant-tokens
invariant-tokens l = record {
  reaches : Reaches l.level l.text l.pointer l.depth l.here l.rest l.tokens;
  rooted : IsRooted l.tokens;
}

abbrev pub decreases-tokens : goal.decreases-tokens
decreases-tokens l = length l.tokens
