-- Loop invariant: the bytes before here are unescaped.
use Rattle.std.proofs.Common.{length}
use Rattle.std.specs.List.{All}
use Rattle.format_json_extents.specs.Strings.{IsUnescaped}
use Rattle.format_json_extents.specs.Texts.{MatchesAtStart}
use Rattle.format_json_extents.proofs.tokens.skip_more_unescaped.Given as goal

abbrev pub invariant-lanes : goal.invariant-lanes
invariant-lanes l = MatchesAtStart (All IsUnescaped) l.bytes l.rest

abbrev pub decreases-lanes : goal.decreases-lanes
decreases-lanes l = length l.rest

abbrev pub invariant-last : goal.invariant-last
invariant-last l = MatchesAtStart (All IsUnescaped) l.bytes l.rest

abbrev pub decreases-last : goal.decreases-last
decreases-last l = length l.rest
