-- Takes of the tokens outside a set: their runs are those of a take of the members of the set of
-- the others.
use Rattle.stream_sets.specs.declared.range.Range.{Range}
use Rattle.winnow_token.specs.declared.token.impls.take_till.TakeTill.{TakeTill}

-- how many tokens are taken
abbrev pub take_till_occurrences : {S I E : Type 0} → TakeTill S I E → Range
take_till_occurrences s = s.occurrences

-- the set whose members end the take
abbrev pub take_till_set : {S I E : Type 0} → TakeTill S I E → S
take_till_set s = s.set
