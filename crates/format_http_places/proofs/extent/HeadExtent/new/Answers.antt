use Rattle.std.proofs.Common.{refl}
use Rattle.format_http_places.proofs.Extents.{of_none}
use Rattle.format_http_places.proofs.extent.HeadExtent.new.Goals as goal

pub returns : goal.returns
returns c bytes = of_none c.args.kind _ bytes refl c.start.ensures
