use Rattle.std.proofs.Common.{refl}
use Rattle.format_json_extents.proofs.Matching.{never_starts_with_no_byte, no_match_of_second}
use Rattle.format_json_extents.proofs.Matching.{rest_after_byte, rest_after_then}
use Rattle.format_json_extents.proofs.Scalars.{in_quotes}
use Rattle.format_json_extents.proofs.Scanning.{alone, if_none_of_true}
use Rattle.format_json_extents.proofs.string.read_string.Goals as goal

pub returns-in_err-rest-clause-only : goal.returns-in_err-rest-clause-only
returns-in_err-rest-clause-only c = λ rest it.
    absurd (no_match_of_second never_starts_with_no_byte
    (rest_after_byte c.in_ok-inside.ensures refl) c.in_err-rest.ensures rest it)

pub returns-in_err-rest-clause-none : goal.returns-in_err-rest-clause-none
returns-in_err-rest-clause-none c =
    if_none_of_true _ c.from_residual-in_err-rest.result
    (no_match_of_second never_starts_with_no_byte (rest_after_byte c.in_ok-inside.ensures refl)
    c.in_err-rest.ensures)

pub returns-clause-only : goal.returns-clause-only
returns-clause-only c = λ rest it.
    alone (rest_after_then never_starts_with_no_byte
    (rest_after_byte c.in_ok-inside.ensures refl) c.in_ok-rest.ensures) it

pub returns-clause-found : goal.returns-clause-found
returns-clause-found c = in_quotes c.in_ok-inside.ensures c.in_ok-rest.ensures.stands
