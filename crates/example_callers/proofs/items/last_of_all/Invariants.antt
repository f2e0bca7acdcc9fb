use Rattle.std.proofs.Common.{◌≡◌, List, [], ◌∷◌, ◌++◌, MatchOption}
use Rattle.winnow.specs.Does.{Ran}
use Rattle.winnow.specs.ParseIter.{IsReached, parse_iter_parser, parse_iter_standing}
use Rattle.winnow.specs.ParseIter.{parse_iter_state}
use Rattle.winnow.specs.ParseIter.Inversion.{HasRead}
use Rattle.example_callers.proofs.items.last_of_all.Given as goal

abbrev pub invariant-loop-item : goal.invariant-loop-item
invariant-loop-item g l = record {
  items : (outputs : List _)
      × HasRead (Ran g.I.Stream.reading g.P.Parser.does g.E.HasKind.form)
      (g.P.Parser.state l.fn.parser)
      (g.I.Stream.view l.fn.input) outputs
      (parse_iter_state g.P.Parser.state g.I.Stream.view g.I.Stream.seen l.items)
      × MatchOption l.last (outputs ≡ []) (λ o. (before : List _) × (outputs ≡ before ++ o ∷ []));
  callable : g.P.Parser.can_parse (parse_iter_parser l.items);
  reached : IsReached g.I.Stream.reading
      (parse_iter_standing g.I.Stream.view g.I.Stream.seen l.items);
}
