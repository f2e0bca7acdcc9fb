use Rattle.std.proofs.Common.{rules, ◌∙◌, [], ◌∷◌, ◌++◌, ap, refl, sym}
use Rattle.winnow.specs.Does.{Ran}
use Rattle.winnow.specs.Input.{is_end_of_refl, is_end_of_trans}
use Rattle.winnow.specs.Form.{answer_by, assert_kind}
use Rattle.winnow.specs.Iterator.{iterator_state}
use Rattle.winnow.specs.Iterator.Inversion.{iterator_item, iterator_more, iterator_stopped}
use Rattle.example_callers.proofs.ItemLemmas.{ends_told, fails_told}
use Rattle.example_callers.proofs.items.last_item.Goals as goal

pub loop-item-init : goal.loop-item-init
loop-item-init g c = record {
  items = ([], cc, refl);
  goes_on = c.iterator-items.ensures.goes_on;
  ends = rw c.iterator-items.ensures.input
      (is_end_of_refl g.I.Stream.reading (g.I.Stream.view c.args.input.now));
  callable = rw c.iterator-items.ensures.parser (c.requires);
  same_input = refl;
}

pub loop-item-preserved : goal.loop-item-preserved
loop-item-preserved g c =
    let inv = c.loop-item.invariant in
    let step = c.in-Some.ensures.steps in
    record {
      items = (
        inv.items.0 ++ c.in-Some.item ∷ [],
        iterator_more (Ran g.I.Stream.reading g.P.Parser.does g.E.HasKind.form)
            (assert_kind g.E.HasKind.form)
            (g.P.Parser.state c.args.parser) (g.I.Stream.view c.args.input.now) inv.items.0
            (iterator_state g.P.Parser.state g.I.Stream.view g.E.HasKind.kind c.loop-item.items)
            c.in-Some.item _ inv.items.1 step.0,
        (inv.items.0, refl),
      );
      goes_on = (iterator_item (Ran g.I.Stream.reading g.P.Parser.does g.E.HasKind.form)
          (assert_kind g.E.HasKind.form) _ _ _
          step.0).1;
      ends = is_end_of_trans step.2 inv.ends;
      callable = step.1;
      same_input = step.3 ∙ inv.same_input;
    }

pub returns-in-Ok-clause-ends : goal.returns-in-Ok-clause-ends
returns-in-Ok-clause-ends g c =
    let told = is_end_of_trans c.in_default.ensures.steps.2 c.loop-item.invariant.ends in
    let names = c.in_default.ensures.steps.3 ∙ c.loop-item.invariant.same_input
    ∙ c.iterator-items.ensures.same_input in
    search (rules, told, names, c.finish.ensures.place)

pub returns-in-Err-clause-ends : goal.returns-in-Err-clause-ends
returns-in-Err-clause-ends g c =
    let told = is_end_of_trans c.in_default.ensures.steps.2 c.loop-item.invariant.ends in
    let names = c.in_default.ensures.steps.3 ∙ c.loop-item.invariant.same_input
    ∙ c.iterator-items.ensures.same_input in
    search (rules, told, names, c.finish.ensures.place)

-- what ended the items
pub returns-in-Ok-clause-last : goal.returns-in-Ok-clause-last
returns-in-Ok-clause-last g c =
    let inv = c.loop-item.invariant in
    let run = Ran g.I.Stream.reading g.P.Parser.does g.E.HasKind.form in
    let kind = assert_kind g.E.HasKind.form in
    let state = iterator_state g.P.Parser.state g.I.Stream.view g.E.HasKind.kind c.loop-item.items
    in
    let stops = iterator_stopped run kind state _ inv.goes_on c.in_default.ensures.steps.0 in
    let told = ends_told run kind state _ (g.P.Parser.state c.args.parser)
    (g.I.Stream.view c.args.input.now) inv.items.0 inv.items.1 stops
    (ap (answer_by g.E.HasKind.kind) (sym c.in-Ok.is) ∙ c.finish.ensures.answer) in
    let names = c.in_default.ensures.steps.3 ∙ inv.same_input
    ∙ c.iterator-items.ensures.same_input in
    (inv.items.0, search (rules, told, names, c.finish.ensures.place), inv.items.2)

pub returns-in-Err-clause-fails : goal.returns-in-Err-clause-fails
returns-in-Err-clause-fails g c =
    let inv = c.loop-item.invariant in
    let run = Ran g.I.Stream.reading g.P.Parser.does g.E.HasKind.form in
    let kind = assert_kind g.E.HasKind.form in
    let state = iterator_state g.P.Parser.state g.I.Stream.view g.E.HasKind.kind c.loop-item.items
    in
    let stops = iterator_stopped run kind state _ inv.goes_on c.in_default.ensures.steps.0 in
    let told = fails_told run kind state _ (g.P.Parser.state c.args.parser)
    (g.I.Stream.view c.args.input.now) inv.items.0 (g.E.HasKind.kind c.in-Err.error)
    inv.items.1 stops
    (ap (answer_by g.E.HasKind.kind) (sym c.in-Err.is) ∙ c.finish.ensures.answer) in
    let names = c.in_default.ensures.steps.3 ∙ inv.same_input
    ∙ c.iterator-items.ensures.same_input in
    (inv.items.0, search (rules, told, names, c.finish.ensures.place))
