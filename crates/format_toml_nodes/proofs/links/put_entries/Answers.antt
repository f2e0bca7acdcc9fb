use Rattle.std.proofs.Common.{◌≡◌, ◌+◌, ◌∙◌, ◌∷◌, [], Bor, List, arith, ap, length, min, refl}
use Rattle.std.proofs.Common.{subst, sym, ℕ}
use Rattle.std.proofs.lemmas.Map.Iter.{rest_all, rest_more}
use Rattle.std.proofs.lemmas.Option.{slice_get_read}
use Rattle.std.specs.Map.Iter.{deref_pair}
use Rattle.format_toml_nodes.specs.Laying.{Fits, Puts, most, name_len, total}
use Rattle.format_toml_nodes.proofs.Changes.{keeps_none, keeps_placed, keeps_then}
use Rattle.format_toml_nodes.proofs.Entries.{count_first, entry_at, found_first, found_more}
use Rattle.format_toml_nodes.proofs.Entries.{name_more, names_end, names_first}
use Rattle.format_toml_nodes.proofs.Texts.{capped_end, capped_more, capped_small, grows_none}
use Rattle.format_toml_nodes.proofs.Texts.{grows_put, grows_then}
use Rattle.format_toml_nodes.proofs.links.put_entries.Goals as goal

pub loop-name-init : goal.loop-name-init
loop-name-init g c =
    let slots = c.args.slots.now in
    let parent = c.args.parent in
    let old = c.args.buffer.now in
    let before = c.args.nodes.now in
    let s = c.index-slots-parent.result in
    let there = slice_get_read slots _ parent s refl c.requires c.index-slots-parent.is in
    let m = c.places-name-items.result.now in
    let gives = c.into_iter-name-iterator.ensures.into_iter_gives in
    let left = c.into_iter-name-iterator.result in
    let is : left ≡ m.entries = gives.0 in
    record {
      small = omega (arith, c.ranges.at.fits);
      count = λ t h. ap (λ n. min (c.args.at + n) most)
          (count_first slots parent c.args.at old before m left is s there
          c.places-name-items.ensures t h);
      grows = grows_none c.args.at old;
      keeps = keeps_none before;
      found = found_first slots parent c.args.at old before m left is s there
          c.places-name-items.ensures gives.6;
      names = names_first slots parent c.args.at old before m left is s there
          c.places-name-items.ensures;
    }

pub loop-name-preserved : goal.loop-name-preserved
loop-name-preserved g c =
    let slots = c.args.slots.now in
    let parent = c.args.parent in
    let old = c.args.buffer.now in
    let before = c.args.nodes.now in
    let left = c.loop-name.name-iterator in
    let others = c.next.new.self in
    let end = c.loop-name.end in
    let next = c.put_bytes-end.result in
    let new = c.put_bytes-end.new.text in
    let e : Bor (List ℕ) × ℕ = (c.in-Some.name.now, c.in-Some.place.now) in
    let is : left ≡ e ∷ others = rest_more deref_pair left others c.next.result
    (c.in-Some.name, c.in-Some.place) c.in-Some.is c.next.ensures.steps in
    let puts : Puts e.0.now end c.loop-name.buffer next new =
    subst (λ b. Puts b end c.loop-name.buffer next new) c.as_bytes-bytes.ensures.value
    c.put_bytes-end.ensures in
    record {
      small = capped_small _ next puts.is_end;
      count = λ t h. capped_more end (length e.0.now) (total name_len others) next _ puts.is_end
          (ap (λ l. min (end + total name_len l) most) (sym is)
          ∙ c.loop-name.invariant.count t h);
      grows = grows_then c.loop-name.invariant.grows (grows_put puts);
      keeps = keeps_then c.loop-name.invariant.keeps
          (keeps_placed (entry_at parent c.span_of.result) c.put_position.ensures);
      found = found_more slots parent c.args.at old before e others left is
          c.loop-name.invariant.found;
      names = name_more slots parent c.args.at old before c.requires e others left is
          c.loop-name.invariant.found _ c.loop-name.nodes c.put_position.new.nodes
          c.loop-name.buffer end next new
          (subst (λ b. Fits b end c.span_of.result) c.as_bytes-bytes.ensures.value
          c.span_of.ensures) c.put_position.ensures puts c.loop-name.invariant.names;
    }

pub returns : goal.returns
returns g c =
    let left = c.loop-name.name-iterator in
    let is : left ≡ [] = rest_all deref_pair left c.next.new.self c.next.result c.in-None.is
    c.next.ensures.steps in
    let end = c.loop-name.end in
    let i = c.loop-name.invariant in
    record {
      count = λ t h. capped_end end _ i.small
          (ap (λ l. min (end + total name_len l) most) (sym is) ∙ i.count t h);
      grows = i.grows;
      keeps = i.keeps;
      names = λ tree path holds fits s h. names_end c.args.slots.now c.args.parent c.args.at
          c.args.buffer.now c.args.nodes.now left is end c.loop-name.buffer c.loop-name.nodes
          i.names tree path holds (omega (arith, i.grows.same, fits)) s h;
    }
