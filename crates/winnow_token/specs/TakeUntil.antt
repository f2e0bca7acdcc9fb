-- Takes up to a literal.
use Rattle.stream_sets.specs.declared.range.Range.{Range}
use Rattle.winnow_token.specs.declared.token.impls.take_until.TakeUntil.{TakeUntil}

-- how many tokens may precede the literal
abbrev pub take_until_occurrences : {T I E : Type 0} → TakeUntil T I E → Range
take_until_occurrences s = s.occurrences

-- the literal before which tokens are taken
abbrev pub take_until_literal : {T I E : Type 0} → TakeUntil T I E → T
take_until_literal s = s.literal
