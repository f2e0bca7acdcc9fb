use Rattle.exported.proofs.JsonIntegers.{integer_shown}
use Rattle.exported.proofs.json.integer.exported_json_integer.Goals as goal

pub returns-in-Some-as_i64-clause-integer : goal.returns-in-Some-as_i64-clause-integer
returns-in-Some-as_i64-clause-integer c _ =
    integer_shown _ _ _ c.in-Some-as_i64.found c.in-Some.ensures.found
    (c.in-Some-as_i64.ensures c.in-Some.ensures.found.is)

pub returns-in-None-as_i64-clause-other : goal.returns-in-None-as_i64-clause-other
returns-in-None-as_i64-clause-other c _ =
    (_, _, c.in-Some.ensures.found, c.in-None-as_i64.ensures c.in-Some.ensures.found.is)
