use Rattle.stream_sets.specs.Accumulator.{nothing_kept}
use Rattle.parser_definitions.specs.Escaped.{EscapedDoes}
use Rattle.winnow_core.specs.Take.Laws.{taken_from_the_front}
use Rattle.winnow_escapes.proofs.laws.the_escaped_slice_and_the_rest_are_the_input.Goals as goal

pub returns : goal.returns
returns g c tokens_of told =
    taken_from_the_front g.I.Stream.reading tokens_of told
    (EscapedDoes nothing_kept nothing_kept g.N.Parser.does g.K.Parser.does g.X.Parser.does)
    g.E.HasKind.form
