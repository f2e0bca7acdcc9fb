-- Loop invariant: the bytes before here are digits.
use Rattle.std.proofs.Common.{length}
use Rattle.std.specs.List.{All}
use Rattle.format_json_extents.specs.Number.{IsDigit}
use Rattle.format_json_extents.specs.Texts.{MatchesAtStart}
use Rattle.format_json_extents.proofs.tokens.skip_digits.Given as goal

abbrev pub invariant-digits : goal.invariant-digits
invariant-digits l = MatchesAtStart (All IsDigit) l.bytes l.rest

abbrev pub decreases-digits : goal.decreases-digits
decreases-digits l = length l.rest
