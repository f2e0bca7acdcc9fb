use Rattle.std.proofs.Common.{◌≡◌, ◌+◌, ◌∙◌, arith, ap, drop, length, min, refl, subst, sym}
use Rattle.std.proofs.lemmas.List.{length-set}
use Rattle.std.proofs.lemmas.Option.{slice_get_read, slice_get_within}
use Rattle.format_toml_nodes.specs.Laying.{Fits, Puts, alone, most, text_len, total}
use Rattle.format_toml_nodes.specs.Nodes.{text_of, value_of}
use Rattle.format_toml_nodes.specs.declared.node.TomlValue.{TomlValue}
use Rattle.format_toml_nodes.proofs.Placed.{apart_more, value_more}
use Rattle.format_toml_nodes.proofs.Texts.{capped_end, capped_more, capped_small, total_at}
use Rattle.format_toml_nodes.proofs.Texts.{total_past}
use Rattle.format_toml_tree.specs.Holds.{node_at, node_of}
use Rattle.format_toml_nodes.proofs.links.put_values.Goals as goal

pub loop-place-preserved : goal.loop-place-preserved
loop-place-preserved g c =
    let slots = c.args.slots.now in
    let place = c.loop-place.place in
    let end = c.loop-place.end in
    let next = c.put_bytes-end.result in
    let i = c.loop-place.invariant in
    let s = c.index-slots-place.result in
    let there = slice_get_read slots _ place s refl c.loop-place-test.true c.index-slots-place.is in
    let count = length s.elements.items in
    let bytes = c.as_bytes-bytes.result.now in
    let is_bytes : bytes ≡ text_of (node_at s) = c.as_bytes-bytes.ensures.value
    ∙ c.text.ensures count ∙ ap (λ k. text_of (node_of k count)) c.kind-kind.ensures in
    let puts : Puts (text_of (node_at s)) end c.loop-place.buffer next c.put_bytes-end.new.text =
    subst (λ b. Puts b end c.loop-place.buffer next c.put_bytes-end.new.text) is_bytes
    c.put_bytes-end.ensures in
    let node = c.alone.result in
    let single = c.alone.ensures in
    let is_value : node.value ≡ record (value_of (node_at s)) { text = node.value.text } =
    ap (λ n. n.value) single
    ∙ ap {A = TomlValue} (λ v. record v { text = c.span_of.result })
    (c.value_of.ensures count ∙ ap (λ k. value_of (node_of k count)) c.kind-kind.ensures)
    ∙ ap (λ n. record (value_of (node_at s)) { text = n.value.text }) (sym single) in
    let is_place : Fits (text_of (node_at s)) end node.value.text =
    subst (λ b. Fits b end node.value.text) is_bytes
    (subst (λ n. Fits bytes end n.value.text) (sym single) c.span_of.ensures) in
    record {
      small = capped_small _ next puts.is_end;
      count = capped_more end (text_len s) (total text_len (drop (place + 1) slots)) next _
          puts.is_end
          (ap (λ n. min (end + n) most) (sym (total_at text_len slots place s there)) ∙ i.count);
      same = (
        puts.same ∙ i.same.0,
        ap (λ l. length l) c.put_node.ensures ∙ length-set c.loop-place.nodes place node
            ∙ i.same.1,
      );
      shows = value_more slots place s there node c.loop-place.nodes c.put_node.new.nodes
          c.loop-place.buffer end next c.put_bytes-end.new.text is_value is_place
          c.put_node.ensures puts i.shows;
      apart = apart_more slots place node c.loop-place.nodes c.put_node.new.nodes
          (single ∙ ap (λ n. alone n.value) (sym single)) c.put_node.ensures i.apart;
    }

pub returns : goal.returns
returns g c =
    let slots = c.args.slots.now in
    let place = c.loop-place.place in
    let end = c.loop-place.end in
    let i = c.loop-place.invariant in
    let past = c.loop-place-test.false in
    record {
      count = capped_end end _ i.small
          (ap (λ n. min (end + n) most) (sym (total_past text_len slots place past)) ∙ i.count);
      same = i.same;
      shows = λ fits k s it h f. i.shows (omega (arith, i.same.0, fits)) k s it
          (omega (arith, slice_get_within slots k s h, past)) h f;
      apart = λ k it within h. i.apart k it (omega (arith, within, past)) h;
    }
