use Rattle.std.proofs.Common.{◌<◌, ◌≡◌, Err, refl, sym, ap, subst, ◌∙◌}
use Rattle.std.proofs.lemmas.Option.{slice_get_read}
use Rattle.format_toml_tree.specs.Holds.{says_of}
use Rattle.format_toml_tree.proofs.Opened.{set_found, set_new, set_refused}
use Rattle.format_toml_tree.proofs.tree.Tree.set.Goals as goal

pub index_mut-slot-requires : goal.index_mut-slot-requires
index_mut-slot-requires g c =
    let (tree, path, holds, within) = c.requires in
    let at = slice_get_read c.args.self.now.slots.items _ c.args.table c.index.result.now refl
    within c.index.ensures in
    subst (λ n. c.in-Some.place < n) (sym c.args.self.now.slots.ok.0)
    (holds.found c.args.table c.index.result.now at c.args.name.now c.in-Some.place
    (sym c.get.ensures.value ∙ sym c.copied-found.ensures ∙ c.in-Some.is)).0

pub returns-in-Ok : goal.returns-in-Ok
returns-in-Ok g c tree path holds =
    let items = c.args.self.now.slots.items in
    let at = slice_get_read items _ c.args.table c.index.result.now refl
    c.requires.3 c.index.ensures in
    let found = sym c.get.ensures.value ∙ sym c.copied-found.ensures ∙ c.in-Some.is in
    let inside = (holds.found c.args.table c.index.result.now at c.args.name.now c.in-Some.place
    found).0 in
    let is = slice_get_read items _ c.in-Some.place c.index_mut-slot.result.now refl inside
    c.index_mut-slot.ensures.value in
    set_found holds _ _ at c.args.name.now (says_of c.args.role) c.in-Some.place found
    c.index_mut-slot.result.now is c.in-Ok.kind c.in-Ok.ensures

pub returns-in-Err : goal.returns-in-Err
returns-in-Err g c tree path holds why same =
    let items = c.args.self.now.slots.items in
    let at = slice_get_read items _ c.args.table c.index.result.now refl
    c.requires.3 c.index.ensures in
    let found = sym c.get.ensures.value ∙ sym c.copied-found.ensures ∙ c.in-Some.is in
    let inside = (holds.found c.args.table c.index.result.now at c.args.name.now c.in-Some.place
    found).0 in
    let is = slice_get_read items _ c.in-Some.place c.index_mut-slot.result.now refl inside
    c.index_mut-slot.ensures.value in
    let e : c.in-Err.why ≡ why = cc in
    set_refused holds _ _ at c.args.name.now (says_of c.args.role) c.in-Some.place found
    c.index_mut-slot.result.now is why (λ n. c.in-Err.ensures n ∙ ap (λ w. Err w) e)

pub returns-in_ok-add_entry-in-None : goal.returns-in_ok-add_entry-in-None
returns-in_ok-add_entry-in-None g c tree path holds =
    let at = slice_get_read c.args.self.now.slots.items _ c.args.table c.index.result.now refl
    c.requires.3 c.index.ensures in
    let none = sym c.get.ensures.value ∙ sym c.copied-found.ensures ∙ c.in-None.is in
    set_new holds _ _ at c.args.name.now (says_of c.args.role) none c.first.result _ _
    c.first.ensures (λ n. c.in_ok-add_entry-in-None.ensures tree path holds n)
