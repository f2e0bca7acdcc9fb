use Rattle.std.proofs.Common.{length}
use Rattle.std.specs.List.{All}
use Rattle.format_json_extents.specs.Texts.{MatchesAtStart}
use Rattle.format_json_pieces.specs.Extents.{IsPlain}
use Rattle.format_json_pieces.proofs.extent.skip_plain.Given as goal

abbrev pub invariant-plain : goal.invariant-plain
invariant-plain l = MatchesAtStart (All IsPlain) l.bytes l.rest

abbrev pub decreases-plain : goal.decreases-plain
decreases-plain l = length l.rest
