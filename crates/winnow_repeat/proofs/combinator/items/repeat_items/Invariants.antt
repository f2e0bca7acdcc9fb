use Rattle.std.proofs.Common.{ℕ}
use Rattle.stream_sets.specs.Range.{from_to}
use Rattle.parser_definitions.specs.Consumes.{Item}
use Rattle.parser_definitions.specs.Folding.{gathering}
use Rattle.parser_definitions.specs.Then.Steps.{instead, same}
use Rattle.winnow_repeat.specs.Called.{Collected}
use Rattle.winnow_repeat.specs.Room.{RoomAfter}
use Rattle.winnow_repeat.proofs.combinator.items.repeat_items.Given as goal

abbrev pub invariant-items : goal.invariant-items
invariant-items g l =
    (n : ℕ)
    × Collected g.I.Stream.reading same instead (gathering g.C.Accumulate.accumulator)
    (from_to l.fn.missing l.fn.room) (Item g.P.Parser.does) g.E.HasKind.form l.fn.all
    (g.P.Parser.state l.fn.parser) (g.I.Stream.view l.fn.input) l.all n
    (g.P.Parser.state l.parser) (g.I.Stream.view l.input)
    × RoomAfter l.fn.missing l.fn.room l.missing l.room n
    × g.P.Parser.can_parse l.parser

abbrev pub decreases-items : goal.decreases-items
decreases-items g l = g.I.Stream.reading.units (g.I.Stream.view l.input).left.tokens
