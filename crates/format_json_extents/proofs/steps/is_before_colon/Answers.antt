use Rattle.std.proofs.Common.{refl, sym}
use Rattle.std.proofs.lemmas.Bool.{true≢false}
use Rattle.format_json_extents.proofs.Matching.{byte_matches, no_given_byte, no_match_of_second}
use Rattle.format_json_extents.proofs.Matching.{then_matches}
use Rattle.format_json_extents.proofs.Values.{colon_bars}
use Rattle.format_json_extents.proofs.steps.is_before_colon.Goals as goal

pub returns-in-Some : goal.returns-in-Some
returns-in-Some c = (
  λ yes. (_, then_matches c.skip_whitespace.ensures.stands (byte_matches c.in-Some.ensures refl)),
  λ is. refl,
)

pub returns-in-None : goal.returns-in-None
returns-in-None c = (
  λ yes. absurd (true≢false (sym yes)),
  λ is. absurd (no_match_of_second colon_bars c.skip_whitespace.ensures
      (no_given_byte 58 c.in-None.ensures)
      is.0 is.1),
)
