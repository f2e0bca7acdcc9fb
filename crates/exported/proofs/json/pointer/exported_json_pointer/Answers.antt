use Rattle.std.proofs.Common.{refl}
use Rattle.exported.proofs.JsonPointers.{here_within, rest_within, shows_lookup}
use Rattle.exported.proofs.json.pointer.exported_json_pointer.Goals as goal

pub slice_bounds-value-count : goal.slice_bounds-value-count
slice_bounds-value-count c = rest_within c.in-Some.lookup _ _ _ _ _ c.in-Some.ensures.found

pub overflow_sub-place : goal.overflow_sub-place
overflow_sub-place c = here_within c.in-Some.lookup _ _ _ _ _ c.in-Some.ensures.found

pub returns-in-Some-clause-looked : goal.returns-in-Some-clause-looked
returns-in-Some-clause-looked c _ =
    shows_lookup c.in-Some.lookup _ _ _ _ _ c.in-Some.ensures.found c.kind_of.result _ _
    c.code_of_lookup.ensures c.kind_of.ensures c.number_of.ensures refl refl
