use Rattle.std.proofs.Common.{ℕ, length}
use Rattle.stream_sets.specs.Range.{from_to}
use Rattle.stream_sets.specs.declared.range.Range.{Range}
use Rattle.parser_definitions.specs.Folding.{gathering}
use Rattle.parser_definitions.specs.Threes.{pair_of, with_pair}
use Rattle.winnow_repeat.specs.Room.{RoomAfter}
use Rattle.winnow_separated.specs.Separated.{OnlyElements}
use Rattle.winnow_repeat.specs.Called.{Collected}
use Rattle.winnow_separated.proofs.combinator.impls.separated.separated_links.Given as goal

abbrev pub invariant-links : goal.invariant-links
invariant-links g l =
    (n : ℕ)
    × ((r : Range) → Collected g.I.Stream.reading pair_of with_pair
    (gathering g.C.Accumulate.accumulator) (from_to l.fn.missing l.fn.room)
    (OnlyElements g.P.Parser.does g.S.Parser.does) g.E.HasKind.form l.fn.all
    (g.P.Parser.state l.fn.link.parser, g.S.Parser.state l.fn.link.separator, r)
    (g.I.Stream.view l.fn.input) l.all n
    (g.P.Parser.state l.link.parser, g.S.Parser.state l.link.separator, r)
    (g.I.Stream.view l.input))
    × RoomAfter l.fn.missing l.fn.room l.missing l.room n
    × g.P.Parser.can_parse l.link.parser
    × g.S.Parser.can_parse l.link.separator

abbrev pub decreases-links : goal.decreases-links
decreases-links g l = length (g.I.Stream.view l.input).left.tokens
