use Rattle.std.proofs.Common.{◌<◌, length, refl, arith}
use Rattle.std.proofs.lemmas.Option.{slice_get_read}
use Rattle.format_toml_tree.specs.Calls.{depth_added, element_added}
use Rattle.format_toml_tree.proofs.tree.Tree.add_element.Goals as goal

pub returns : goal.returns
returns g c =
    let slots = c.args.self.now.slots in
    let at = slice_get_read slots.items _ c.args.array c.index.result.now refl c.requires
    c.index.ensures in
    let small : length slots.items < 18446744073709551616 =
    omega (arith, slots.ok.0, slots.ok.1, slots.small) in
    element_added _ _ _ _ _ _ _ _ _ c.in_ok-place.ensures c.requires
    (depth_added slots.items c.args.array _ c.index.result.now at
    c.saturating_add-depth.ensures small)
    c.index_mut-slot.ensures.value refl refl refl refl c.in_ok-push.ensures.items refl refl
