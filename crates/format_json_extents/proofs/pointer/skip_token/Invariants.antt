-- Loop invariant: the bytes before here are no slashes.
use Rattle.std.proofs.Common.{length}
use Rattle.std.specs.List.{All}
use Rattle.format_json_extents.specs.Pointer.{IsTokenByte}
use Rattle.format_json_extents.specs.Texts.{MatchesAtStart}
use Rattle.format_json_extents.proofs.pointer.skip_token.Given as goal

abbrev pub invariant-token : goal.invariant-token
invariant-token l = MatchesAtStart (All IsTokenByte) l.bytes l.rest

abbrev pub decreases-token : goal.decreases-token
decreases-token l = length l.rest
