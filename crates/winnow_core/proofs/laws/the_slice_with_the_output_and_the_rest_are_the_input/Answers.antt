use Rattle.winnow_core.specs.Take.Laws.{with_taken_from_the_front}
use Rattle.winnow_core.proofs.laws.the_slice_with_the_output_and_the_rest_are_the_input.Goals as goal

pub returns : goal.returns
returns g c tokens_of told =
    with_taken_from_the_front g.I.Stream.reading tokens_of told g.P.Parser.does g.E.HasKind.form
