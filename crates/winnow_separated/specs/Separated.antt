-- Elements with separators between them.
use Rattle.std.specs.Prelude.{Option}
use Rattle.stream_sets.specs.declared.range.Range.{Range}
use Rattle.parser_definitions.specs.Link.{Link}
use Rattle.parser_definitions.specs.Outcome.{Does}
use Rattle.winnow_separated.specs.declared.combinator.impls.separated.Separated.{Separated}

-- how many elements are read
abbrev pub separated_occurrences : {P S I O D C E A : Type 0} → Separated P S I O D C E A → Range
separated_occurrences s = s.occurrences

-- the parser of the elements
abbrev pub separated_parser : {P S I O D C E A : Type 0} → Separated P S I O D C E A → P
separated_parser s = s.link.parser

-- the parser of the separators
abbrev pub separated_separator : {P S I O D C E A : Type 0} → Separated P S I O D C E A → S
separated_separator s = s.link.separator

-- links whose outputs are those of their elements
abbrev pub OnlyElements : {S W T O D : Type 0} → Does S T O → Does W T D → Does (S × W) T (Option O)
OnlyElements element separator = Link (λ d o. o) element separator
