use Rattle.std.proofs.Common.{refl}
use Rattle.format_csv_records.proofs.Extents.{of_none}
use Rattle.format_csv_records.proofs.extent.RecordExtent.new.Goals as goal

pub returns : goal.returns
returns c d bytes = of_none d _ bytes refl refl refl refl
