use Rattle.std.proofs.Common.{ℕ}
use Rattle.stream_sets.specs.declared.range.Range.{Range}
use Rattle.parser_definitions.specs.Folding.{gathering}
use Rattle.parser_definitions.specs.Threes.{one_of, two_of, with_one, with_two}
use Rattle.winnow_repeat.specs.Room.{RoomAfter}
use Rattle.winnow_repeat.proofs.RepeatTillLemmas.{Turned}
use Rattle.winnow_repeat.proofs.combinator.impls.repeat_till.turns.Given as goal

abbrev pub invariant-turns : goal.invariant-turns
invariant-turns g l =
    (n : ℕ)
    × ((range : Range) → Turned g.I.Stream.reading one_of with_one two_of with_two
    (gathering g.C.Accumulate.accumulator) g.P.Parser.does g.G.Parser.does l.fn.room
    g.E.HasKind.form l.fn.before
    (g.P.Parser.state l.fn.parser, g.G.Parser.state l.fn.terminator, range)
    (g.I.Stream.view l.fn.input) l.all n
    (g.P.Parser.state l.parser, g.G.Parser.state l.terminator, range)
    (g.I.Stream.view l.input))
    × RoomAfter 0 l.fn.room 0 l.room n
    × g.P.Parser.can_parse l.parser × g.G.Parser.can_parse l.terminator

abbrev pub decreases-turns : goal.decreases-turns
decreases-turns g l = g.I.Stream.reading.units (g.I.Stream.view l.input).left.tokens
