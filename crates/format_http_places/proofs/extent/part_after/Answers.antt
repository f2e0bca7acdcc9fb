use Rattle.format_http_places.proofs.Extents.{is_in}
use Rattle.format_http_places.proofs.extent.part_after.Goals as goal

pub returns : goal.returns
returns c = is_in c.walk-place.result.0 c.start.ensures c.walk-place.ensures c.requires
    c.part.ensures
