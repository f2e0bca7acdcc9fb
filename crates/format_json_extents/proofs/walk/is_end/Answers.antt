use Rattle.std.proofs.Common.{subst, sym}
use Rattle.format_json_extents.proofs.Walks.{ends_is}
use Rattle.format_json_extents.specs.Walk.{StartsWithEnd}
use Rattle.format_json_extents.proofs.walk.is_end.Goals as goal

pub returns-in-Some : goal.returns-in-Some
returns-in-Some c = (
  λ yes. (
    _,
    c.skip_whitespace.ensures.stands,
    subst StartsWithEnd (sym c.in-Some.ensures.cases.0) (c.is_closing.ensures.0 yes),
  ),
  λ is. c.is_closing.ensures.1 (ends_is c.skip_whitespace.ensures c.in-Some.ensures.cases.0 is),
)
