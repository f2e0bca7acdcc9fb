-- Loop invariant: the bytes before here are whitespace.
use Rattle.std.proofs.Common.{length}
use Rattle.std.specs.List.{All}
use Rattle.format_json_extents.specs.Value.{IsWhitespaceByte}
use Rattle.format_json_extents.specs.Texts.{MatchesAtStart}
use Rattle.format_json_extents.proofs.tokens.skip_long_whitespace.Given as goal

abbrev pub invariant-lanes : goal.invariant-lanes
invariant-lanes l = MatchesAtStart (All IsWhitespaceByte) l.bytes l.rest

abbrev pub decreases-lanes : goal.decreases-lanes
decreases-lanes l = length l.rest

abbrev pub invariant-last : goal.invariant-last
invariant-last l = MatchesAtStart (All IsWhitespaceByte) l.bytes l.rest

abbrev pub decreases-last : goal.decreases-last
decreases-last l = length l.rest
