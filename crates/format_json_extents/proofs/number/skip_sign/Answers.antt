use Rattle.std.proofs.Common.{rules}
use Rattle.format_json_extents.proofs.Matching.{byte_starts, rest_after_byte, rest_after_some}
use Rattle.format_json_extents.specs.Number.{IsSign}
use Rattle.format_json_extents.proofs.number.skip_sign.Goals as goal

pub returns-then-first-eq45 : goal.returns-then-first-eq45
returns-then-first-eq45 c =
    let is : IsSign c.in-Some.first.now = search rules in
    rest_after_some byte_starts (rest_after_byte c.in-Some.ensures.cases.0 is)
