use Rattle.std.proofs.Common.{ℕ}
use Rattle.stream_sets.specs.Range.{from_to}
use Rattle.parser_definitions.specs.Closures.{folding_in}
use Rattle.parser_definitions.specs.Consumes.{Item}
use Rattle.parser_definitions.specs.Then.Steps.{first, second, with_first, with_second}
use Rattle.winnow_repeat.specs.Called.{Collected}
use Rattle.winnow_repeat.specs.Fold.{without_start}
use Rattle.winnow_repeat.specs.Room.{RoomAfter}
use Rattle.winnow_repeat.proofs.combinator.folding.fold_items.Given as goal

abbrev pub invariant-items : goal.invariant-items
invariant-items g l =
    (n : ℕ)
    × Collected g.I.Stream.reading first with_first (folding_in second with_second
    (without_start g.F.Folding.takes g.F.Folding.rejects g.F.Folding.grows))
    (from_to l.fn.missing l.fn.room) (Item g.P.Parser.does) g.E.HasKind.form l.fn.value
    (g.P.Parser.state l.fn.parser, g.F.Folding.state l.fn.op) (g.I.Stream.view l.fn.input) l.value
    n (g.P.Parser.state l.parser, g.F.Folding.state l.op) (g.I.Stream.view l.input)
    × RoomAfter l.fn.missing l.fn.room l.missing l.room n
    × g.P.Parser.can_parse l.parser
    × g.F.Folding.can_fold l.op

abbrev pub decreases-items : goal.decreases-items
decreases-items g l = g.I.Stream.reading.units (g.I.Stream.view l.input).left.tokens
