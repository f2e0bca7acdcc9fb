use Rattle.std.proofs.Common.{◌≡◌, List, [], ◌∷◌, ◌++◌, MatchOption}
use Rattle.winnow.specs.Input.{IsEndOf}
use Rattle.winnow.specs.Iterator.{iterator_input, iterator_input_name, iterator_parser}
use Rattle.winnow.specs.Iterator.{iterator_standing, running}
use Rattle.winnow.specs.Does.{Ran}
use Rattle.example_callers.specs.Items.{Items}
use Rattle.example_callers.proofs.items.last_item.Given as goal

abbrev pub invariant-loop-item : goal.invariant-loop-item
invariant-loop-item g l = record {
  items : (outputs : List _)
      × Items (Ran g.I.Stream.reading g.P.Parser.does g.E.HasKind.form)
      (g.P.Parser.state l.fn.parser)
      (g.I.Stream.view l.fn.input) outputs (g.P.Parser.state (iterator_parser l.items))
      (g.I.Stream.view (iterator_input l.items))
      × MatchOption l.last (outputs ≡ []) (λ o. (before : List _) × (outputs ≡ before ++ o ∷ []));
  goes_on : iterator_standing g.E.HasKind.kind l.items ≡ running;
  ends : IsEndOf g.I.Stream.reading (g.I.Stream.view (iterator_input l.items))
      (g.I.Stream.view l.fn.input);
  callable : g.P.Parser.can_parse (iterator_parser l.items);
  same_input : iterator_input_name l.items ≡ iterator_input_name l.initial.items;
}
