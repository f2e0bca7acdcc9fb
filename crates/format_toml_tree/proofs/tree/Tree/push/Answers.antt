use Rattle.std.proofs.Common.{refl, ◌∙◌}
use Rattle.format_toml_tree.proofs.tree.Tree.push.Goals as goal

pub returns : goal.returns
returns g c = (
  record {
    kind = c.args.kind;
    depth = c.args.depth;
    name = c.args.name;
    places = c.new.result;
    entries = c.new-2.result;
    elements = c.new-3.result;
  },
  record {
    depth_is = refl;
    name_is = refl;
    kind_is = refl;
    no_places = c.new.ensures.empty;
    no_entries = c.new-2.ensures.items;
    no_elements = c.new-3.ensures.items;
  },
  c.in_ok-push.ensures.items,
  c.len-place.ensures ∙ c.args.self.now.slots.ok.0,
)
