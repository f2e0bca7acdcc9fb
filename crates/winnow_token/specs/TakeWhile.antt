-- Takes by set.
pub use Rattle.parser_definitions.specs.Projects.Tokens.{longest_unique}
use Rattle.stream_sets.specs.declared.range.Range.{Range}
use Rattle.winnow_token.specs.declared.token.impls.take_while.TakeWhile.{TakeWhile}

-- how many tokens are taken
abbrev pub take_while_occurrences : {S I E : Type 0} → TakeWhile S I E → Range
take_while_occurrences s = s.occurrences

-- the set whose members are taken
abbrev pub take_while_set : {S I E : Type 0} → TakeWhile S I E → S
take_while_set s = s.set
