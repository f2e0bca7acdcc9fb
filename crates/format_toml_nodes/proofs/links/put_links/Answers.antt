use Rattle.std.proofs.Common.{◌+◌, ◌∙◌, arith, ap, min, sym, drop}
use Rattle.std.proofs.lemmas.Option.{slice_get_within}
use Rattle.format_toml_nodes.specs.Laying.{most, names_len, total}
use Rattle.format_toml_nodes.proofs.Changes.{keeps_then}
use Rattle.format_toml_nodes.proofs.Elements.{leads_more}
use Rattle.format_toml_nodes.proofs.Texts.{capped_end, capped_more, capped_small, grows_then}
use Rattle.format_toml_nodes.proofs.Texts.{total_at, total_past}
use Rattle.format_toml_tree.specs.Added.{some_there}
use Rattle.format_toml_nodes.proofs.links.put_links.Goals as goal

pub loop-parent-preserved : goal.loop-parent-preserved
loop-parent-preserved g c =
    let slots = c.args.slots.now in
    let parent = c.loop-parent.parent in
    let end = c.loop-parent.end in
    let next = c.put_entries-end.result in
    let i = c.loop-parent.invariant in
    let entries = c.put_entries-end.ensures in
    let elements = c.put_elements.ensures in
    let (s, there) = some_there slots parent c.loop-parent-test.true in
    record {
      small = capped_small _ next (entries.count s there);
      count = capped_more end (names_len s) (total names_len (drop (parent + 1) slots)) next _
          (entries.count s there)
          (ap (λ n. min (end + n) most) (sym (total_at names_len slots parent s there)) ∙ i.count);
      grows = grows_then i.grows entries.grows;
      keeps = keeps_then i.keeps (keeps_then entries.keeps elements.keeps);
      leads = leads_more slots c.args.at c.args.buffer.now c.args.nodes.now parent end
          c.loop-parent.buffer c.loop-parent.nodes next
          c.put_entries-end.new.buffer c.put_entries-end.new.nodes c.put_elements.new.nodes
          c.loop-parent-test.true entries elements i.leads;
    }

pub returns : goal.returns
returns g c =
    let slots = c.args.slots.now in
    let parent = c.loop-parent.parent in
    let end = c.loop-parent.end in
    let i = c.loop-parent.invariant in
    record {
      count = capped_end end _ i.small (ap (λ n. min (end + n) most)
          (sym (total_past names_len slots parent c.loop-parent-test.false)) ∙ i.count);
      grows = i.grows;
      keeps = i.keeps;
      leads = λ tree path holds fits.
          let (stay, below) = i.leads tree path holds (omega (arith, i.grows.same, fits)) in (
            stay,
            λ k s h. below k s
                (omega (arith, slice_get_within slots k s h, c.loop-parent-test.false)) h,
          );
    }
