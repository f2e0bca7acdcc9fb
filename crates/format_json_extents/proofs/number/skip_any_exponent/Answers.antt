use Rattle.format_json_extents.proofs.Matching.{rest_after_none, rest_after_some}
use Rattle.format_json_extents.proofs.Scalars.{exponent_starts}
use Rattle.format_json_extents.proofs.number.skip_any_exponent.Goals as goal

pub returns-in-Some : goal.returns-in-Some
returns-in-Some c = rest_after_some exponent_starts c.in-Some.ensures

pub returns-in-None : goal.returns-in-None
returns-in-None c = rest_after_none c.in-None.ensures
