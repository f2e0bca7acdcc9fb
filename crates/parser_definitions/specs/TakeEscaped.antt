-- The definition of `take_escaped`: the slice of text with escapes.
use Rattle.stream_sets.specs.Accumulator.{nothing_kept}
use Rattle.streams.specs.Reading.{Reading}
use Rattle.parser_definitions.specs.Does.{Lawful}
use Rattle.parser_definitions.specs.Escaped.{EscapedDoes, Settled, escaped_law}
use Rattle.parser_definitions.specs.Outcome.{Does}
use Rattle.parser_definitions.specs.Outputs.{TakeDoes, take_law}
use Rattle.parser_definitions.specs.Spelled.{ShowSame}

-- Turns whose outputs are dropped; the output is the slice of the tokens from their start to their
-- end.
abbrev pub TakeEscapedDoes : {S W V T L O D P : Type 0} → Reading T L → Does S T O → Does W T D
    → Does V T P → Does (S × W × V) T L
TakeEscapedDoes reading text control escape =
    TakeDoes reading (EscapedDoes nothing_kept nothing_kept text control escape)

pub take_escaped_law : {S W V T L O D P : Type 0} {sure kept third : Type 0}
    {alike : O → O → Type 0} {marks : D → D → Type 0} {also : P → P → Type 0} {text : Does S T O}
    {control : Does W T D} {escape : Does V T P} (reading : Reading T L)
    → Lawful sure alike text → Lawful kept marks control → Lawful third also escape
    → Lawful (sure × (Settled control × third)) (ShowSame reading)
    (TakeEscapedDoes reading text control escape)
take_escaped_law reading law mark last =
    take_law reading (escaped_law nothing_kept nothing_kept law mark last)
