use Rattle.std.proofs.Common.{arith}
use Rattle.format_json_extents.proofs.Scanning.{longest_of_rest_after}
use Rattle.format_json_extents.proofs.Values.{only_found}
use Rattle.format_json_extents.proofs.Written.Values.{found_longest, found_standard, none_standard}
use Rattle.format_json_extents.proofs.value.read_value.Goals as goal

pub returns-clause-found : goal.returns-clause-found
returns-clause-found c = longest_of_rest_after c.in_ok-rest.ensures

pub returns-clause-only : goal.returns-clause-only
returns-clause-only c = only_found c.args.level c.in_ok-rest.ensures

pub returns-in_err-rest-clause-only : goal.returns-in_err-rest-clause-only
returns-in_err-rest-clause-only c = λ text rest is e ended.
    absurd (c.in_err-rest.ensures rest (record { text = text; is = is; splits = e }))

pub returns-clause-standard : goal.returns-clause-standard
returns-clause-standard c =
    found_standard c.args.level _ (omega arith) _ _ (longest_of_rest_after c.in_ok-rest.ensures)

pub returns-clause-longest : goal.returns-clause-longest
returns-clause-longest c =
    found_longest c.args.level _ (omega arith) _ _ (longest_of_rest_after c.in_ok-rest.ensures)

pub returns-in_err-rest-clause-longest : goal.returns-in_err-rest-clause-longest
returns-in_err-rest-clause-longest c = λ text rest is e.
    absurd (none_standard c.args.level _ (omega arith) c.in_err-rest.ensures text rest is e)
