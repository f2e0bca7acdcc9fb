use Rattle.std.proofs.Common.{ap, arith, refl, subst, ◌∙◌}
use Rattle.streams.specs.Input.{Input, IsEndOf, Passes, Takes, back_at, passed_again}
use Rattle.winnow_core.proofs.combinator.impls.take.slice_from.Given as given
use Rattle.winnow_core.proofs.combinator.impls.take.slice_from.Goals as goal

-- from the start, the tokens that were dropped are taken again
taken : (g : given.Over) (c : goal.After-next_slice g)
    → Takes g.I.Stream.reading c.requires.dropped (g.I.Stream.view c.reset.new.self)
    c.next_slice.result (g.I.Stream.view c.next_slice.new.self)
taken g c =
    let reading = g.I.Stream.reading in
    let left = (g.I.Stream.view c.args.input.now).left.tokens in
    let front = c.requires.dropped in
    let all_units = ap reading.units c.requires.tokens ∙ reading.units_add front left in
    c.next_slice.ensures.cuts front left (ap (λ x. x.left.tokens) c.reset.ensures
    ∙ c.requires.tokens) (omega (arith, c.offset_from-offset.ensures, all_units))

pub returns-clause-stays : goal.returns-clause-stays
returns-clause-stays g c =
    let j = g.I.Stream.view c.args.input.now in
    let i : Input _ = back_at (g.I.Stream.seen c.args.start.now) j in
    let ends : IsEndOf g.I.Stream.reading j i = record { ends = c.requires; cut = refl } in
    let P : Input _ → Type 0 = λ x. Passes g.I.Stream.reading c.requires.dropped x
    (g.I.Stream.view c.next_slice.new.self) in
    passed_again ends (subst P c.reset.ensures (taken g c).passed)

pub returns-clause-slice : goal.returns-clause-slice
returns-clause-slice g c = (c.requires.dropped, c.requires.tokens, (taken g c).shown)
