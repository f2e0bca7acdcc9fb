use Rattle.winnow.specs.Grammar.{Literally, Longest}
use Rattle.winnow.specs.Located.{located_input}
use Rattle.example_callers.proofs.PlaceLemmas.{placed_told}
use Rattle.example_callers.proofs.places.value_place.Goals as goal

pub returns-in-Ok-clause-found : goal.returns-in-Ok-clause-found
unfolding Literally Longest
returns-in-Ok-clause-found g c = placed_told g.I.Stream.reading _ _
    (located_input (g.I.Stream.view c.args.input.now.input) c.args.input.now.passed)
    (located_input (g.I.Stream.view c.name.new.input.input) c.name.new.input.passed)
    (located_input (g.I.Stream.view c.word_between.new.input.input)
    c.word_between.new.input.passed)
    c.in-Ok.field-0 c.word_between.result c.requires.whole c.in-Ok.ensures.reads
    c.word_between.ensures.reads c.word_between.ensures.between
