use Rattle.parser_definitions.specs.Does.{Ran}
use Rattle.parser_definitions.specs.Fill.{SliceTurn}
use Rattle.winnow_repeat.specs.Loops.{Reached}
use Rattle.winnow_repeat.specs.IntoSlice.{TooManyKind}
use Rattle.winnow_repeat.proofs.SliceLemmas.{Stored}
use Rattle.winnow_repeat.proofs.combinator.slices.write_items.Given as goal

abbrev pub invariant-items : goal.invariant-items
invariant-items g l = record {
  reached : Reached g.I.Stream.reading
      (SliceTurn (TooManyKind g.E.FromExternalError.external_gives) g.P.Parser.does)
      g.E.HasKind.form 0 (g.P.Parser.state l.fn.parser, l.fn.slice) (g.I.Stream.view l.fn.input)
      l.count (g.P.Parser.state l.parser, l.slice) (g.I.Stream.view l.input);
  stored : Stored (Ran g.I.Stream.reading g.P.Parser.does g.E.HasKind.form) l.fn.slice l.slice
      (g.P.Parser.state l.fn.parser) (g.I.Stream.view l.fn.input) (g.P.Parser.state l.parser)
      (g.I.Stream.view l.input) l.count;
  callable : g.P.Parser.can_parse l.parser;
}

abbrev pub decreases-items : goal.decreases-items
decreases-items g l = g.I.Stream.reading.units (g.I.Stream.view l.input).left.tokens
