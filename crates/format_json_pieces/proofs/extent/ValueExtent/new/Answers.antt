use Rattle.std.proofs.Common.{refl}
use Rattle.format_json_pieces.proofs.Extents.Passed.{of_new}
use Rattle.format_json_pieces.proofs.extent.ValueExtent.new.Goals as goal

pub returns-clause-of : goal.returns-clause-of
returns-clause-of c opened bytes = of_new _ opened bytes (refl, refl, refl)
