use Rattle.std.proofs.Common.{refl}
use Rattle.format_resp.proofs.Passing.{none_passed}
use Rattle.format_resp.proofs.extent.Extent.new.Goals as goal

pub returns : goal.returns
returns c protocol tokens = none_passed protocol _ tokens refl refl refl refl
