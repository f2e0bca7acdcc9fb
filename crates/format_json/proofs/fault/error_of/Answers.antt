use Rattle.std.proofs.Common.{arith, inr, rules}
use Rattle.format_json.proofs.ErrorResults.{told_utf8}
use Rattle.format_json.proofs.fault.error_of.Goals as goal

pub returns-in-Ok-first_place : goal.returns-in-Ok-first_place
returns-in-Ok-first_place g c =
    c.fault_at.ensures c.in-Ok-first_place.ensures (inr (search rules))

pub returns-in-Ok-2 : goal.returns-in-Ok-2
returns-in-Ok-2 g c =
    told_utf8 c.args.level c.args.bytes.now c.new.result c.valid_up_to-valid.result
    c.in-Ok-first_place.place.offset c.in-Ok-first_place.place.expected c.in-Err.ensures.cases.0
    (search rules) c.new.ensures c.in-Ok-first_place.ensures
    (omega (arith, c.if-place-valid.false))
