use Rattle.std.proofs.Common.{refl}
use Rattle.format_json_extents.proofs.Matching.{byte_starts, rest_after_byte, rest_after_some}
use Rattle.format_json_extents.proofs.number.skip_minus.Goals as goal

pub returns-in-Some : goal.returns-in-Some
returns-in-Some c = rest_after_some byte_starts (rest_after_byte c.in-Some.ensures refl)
