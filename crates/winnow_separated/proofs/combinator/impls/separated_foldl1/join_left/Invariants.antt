use Rattle.std.proofs.Common.{ℕ, None, length}
use Rattle.stream_sets.specs.Range.{from_to}
use Rattle.parser_definitions.specs.Closures.{folding_in}
use Rattle.parser_definitions.specs.SeparatedFold.{joining}
use Rattle.parser_definitions.specs.Threes.{pair_of, three_of, with_pair, with_three}
use Rattle.winnow_separated.specs.Link.{LinkDoes}
use Rattle.winnow_repeat.specs.Called.{Collected}
use Rattle.winnow_separated.proofs.combinator.impls.separated_foldl1.join_left.Given as goal

abbrev pub invariant-links : goal.invariant-links
invariant-links g l =
    (n : ℕ)
    × Collected g.I.Stream.reading pair_of with_pair
    (folding_in three_of with_three (joining (goal.H-step g))) (from_to 0 None)
    (LinkDoes g.P.Parser.does g.S.Parser.does) g.E.HasKind.form l.fn.first
    (g.P.Parser.state l.fn.link.parser, g.S.Parser.state l.fn.link.separator, l.fn.op)
    (g.I.Stream.view l.fn.input) l.value n
    (g.P.Parser.state l.link.parser, g.S.Parser.state l.link.separator, l.op)
    (g.I.Stream.view l.input)
    × g.P.Parser.can_parse l.link.parser
    × g.S.Parser.can_parse l.link.separator
    × goal.H-IsAlwaysCallable g l.op

abbrev pub decreases-links : goal.decreases-links
decreases-links g l = length (g.I.Stream.view l.input).left.tokens
