use Rattle.std.proofs.Common.{◌≡◌, ◌+◌, ℕ, Some}
use Rattle.stream_sets.specs.Range.{from_to}
use Rattle.parser_definitions.specs.Folding.{gathering}
use Rattle.parser_definitions.specs.RepeatTill.{Every}
use Rattle.parser_definitions.specs.Then.Steps.{instead, same}
use Rattle.winnow_repeat.specs.Called.{Collected}
use Rattle.winnow_repeat.proofs.combinator.impls.repeat_till.least_items.Given as goal

abbrev pub invariant-items : goal.invariant-items
invariant-items g l =
    (n : ℕ)
    × Collected g.I.Stream.reading same instead (gathering g.C.Accumulate.accumulator)
    (from_to l.fn.least (Some l.fn.least)) (Every g.P.Parser.does) g.E.HasKind.form l.fn.empty
    (g.P.Parser.state l.fn.parser) (g.I.Stream.view l.fn.input) l.all n
    (g.P.Parser.state l.parser) (g.I.Stream.view l.input)
    × (n + l.missing ≡ l.fn.least)
    × g.P.Parser.can_parse l.parser

abbrev pub decreases-items : goal.decreases-items
decreases-items g l = l.missing
