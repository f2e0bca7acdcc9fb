-- Repetition.
use Rattle.stream_sets.specs.declared.range.Range.{Range}
use Rattle.winnow_repeat.specs.declared.combinator.impls.repeat.Repeat.{Repeat}

-- how often the parser is run
abbrev pub repeat_occurrences : {P I O C E A : Type 0} → Repeat P I O C E A → Range
repeat_occurrences s = s.occurrences

-- the parser that is repeated
abbrev pub repeat_parser : {P I O C E A : Type 0} → Repeat P I O C E A → P
repeat_parser s = s.parser
