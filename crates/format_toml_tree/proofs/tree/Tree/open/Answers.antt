use Rattle.std.proofs.lemmas.Result.{IfOk-weaker}
use Rattle.std.proofs.Common.{refl}
use Rattle.std.proofs.lemmas.Option.{slice_get_read}
use Rattle.format_toml_tree.specs.Added.{some_there}
use Rattle.format_toml_tree.proofs.Opened.{opens_inside, opens_new, opens_none}
use Rattle.format_toml_tree.proofs.tree.Tree.open.Goals as goal

pub returns-in-Tables-kind : goal.returns-in-Tables-kind
returns-in-Tables-kind g c =
    let was = c.index.result.now in
    let at = slice_get_read c.args.self.now.slots.items _ c.args.place was refl c.requires
    c.index.ensures in
    IfOk-weaker c.add_element.result _ _ (λ j adds tree path holds.
    opens_new holds c.args.place was at c.args.role j c.add_element.new.self.slots.items
    c.in-Tables.is c.in-Tables-kind.is (adds tree path was holds at)) c.add_element.ensures

pub returns-in_default-kind : goal.returns-in_default-kind
returns-in_default-kind g c tree path holds =
    let was = c.index.result.now in
    let at = slice_get_read c.args.self.now.slots.items _ c.args.place was refl c.requires
    c.index.ensures in
    opens_none holds c.args.place was at c.args.role c.in-Tables.is c.in_default-kind.not-Tables

pub returns-in_default : goal.returns-in_default
returns-in_default g c tree path holds =
    let (was, at) = some_there c.args.self.now.slots.items c.args.place c.requires in
    opens_inside holds c.args.place was at c.args.role c.in_default.not-Tables c.inside.result
    (c.inside.ensures was at)
