use Rattle.std.proofs.Common.{refl}
use Rattle.format_http_places.specs.declared.state.HeadPlace.TheVariants as place
use Rattle.format_http_places.proofs.PlaceSteps.{code_space, step_only, takes_end}
use Rattle.format_http_places.proofs.state.place_after_code.Goals as goal

pub returns-then-byte-eq32 : goal.returns-then-byte-eq32
returns-then-byte-eq32 c = code_space c.args.byte c.if-byte-eq32.true

pub returns-else-byte-eq32 : goal.returns-else-byte-eq32
returns-else-byte-eq32 c = step_only 13 {here = place.AfterCode} place.LineFeed c.only.result refl
    (takes_end c.if-byte-eq32.false) c.only.ensures
