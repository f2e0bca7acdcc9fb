use Rattle.winnow_repeat.specs.IntoSlice.{TooManyKind}
use Rattle.winnow_repeat.proofs.SliceLemmas.{slice_tells}
use Rattle.winnow_repeat.proofs.combinator.slices.repeat_into_slice.Goals as goal

pub returns-clause-tells : goal.returns-clause-tells
returns-clause-tells g c is equal =
    slice_tells g.I.Stream.reading (g.met.P.Parser.lawful.law is) equal
    (TooManyKind g.E.FromExternalError.external_gives) g.E.HasKind.form _ _ _ _ _
    c.write_items.ensures.ran
