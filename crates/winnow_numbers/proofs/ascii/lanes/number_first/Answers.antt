use Rattle.std.proofs.Common.{ap, arith, subst, sym, ◌∙◌, ◌-◌, take}
use Rattle.winnow_numbers.specs.Lanes.{AreAtMost, in_base}
use Rattle.winnow_numbers.proofs.FirstLemmas.{front_of}
use Rattle.winnow_numbers.proofs.LaneLemmas.{zeros_before, zeros_most}
use Rattle.winnow_numbers.proofs.ascii.lanes.number_first.Goals as goal

pub moved_last-requires : goal.moved_last-requires
moved_last-requires c =
    omega (arith, (front_of c.args.lanes c.args.count c.requires).1, c.fits-lanes.0)

pub sixteen-requires : goal.sixteen-requires
sixteen-requires c =
    subst (AreAtMost 9) (sym c.moved_last.ensures) (zeros_most (16 - c.args.count)
    (take c.args.count c.args.lanes) (front_of c.args.lanes c.args.count c.requires).0)

pub returns : goal.returns
returns c =
    c.sixteen.ensures ∙ ap (in_base 10 0) c.moved_last.ensures
    ∙ zeros_before (16 - c.args.count) (take c.args.count c.args.lanes)
