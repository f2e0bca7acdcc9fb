use Rattle.parser_definitions.specs.Escaped.{EscapeTurn, either_kept}
use Rattle.parser_definitions.specs.Folding.{gathering}
use Rattle.winnow_escapes.proofs.EscapesLemmas.{Leads}
use Rattle.winnow_escapes.proofs.ascii.turns.read_turns.Given as goal

abbrev pub invariant-turns : goal.invariant-turns
invariant-turns g l =
    Leads g.I.Stream.reading
    (gathering (either_kept g.C.Accumulate-1.accumulator g.C.Accumulate-2.accumulator))
    (EscapeTurn g.N.Parser.does g.K.Parser.does g.X.Parser.does) g.E.HasKind.form l.fn.before
    (g.N.Parser.state l.fn.normal, g.K.Parser.state l.fn.control, g.X.Parser.state l.fn.escape)
    (g.I.Stream.view l.fn.input) l.all
    (g.N.Parser.state l.normal, g.K.Parser.state l.control, g.X.Parser.state l.escape)
    (g.I.Stream.view l.input)
    × g.N.Parser.can_parse l.normal × g.K.Parser.can_parse l.control
    × g.X.Parser.can_parse l.escape

abbrev pub decreases-turns : goal.decreases-turns
decreases-turns g l = g.I.Stream.reading.units (g.I.Stream.view l.input).left.tokens
