use Rattle.std.proofs.Common.{refl}
use Rattle.format_json_extents.proofs.Written.Units.{unit_text}
use Rattle.format_json_extents.proofs.unescape.unit_of.Goals as goal

pub returns : goal.returns
returns c =
    unit_text _ _ _ _ _ _ _ _ _ c.hex_value-first.ensures c.hex_value-second.ensures
    c.hex_value-third.ensures c.hex_value-fourth.ensures refl
