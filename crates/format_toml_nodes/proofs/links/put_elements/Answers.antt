use Rattle.std.proofs.Common.{◌≡◌, refl, arith, ap, length, subst, sym, Some, get_or, slice_get}
use Rattle.std.proofs.Common.{◌∙◌, ℕ}
use Rattle.std.proofs.lemmas.Option.{same_Some, slice_get-get_or, slice_get_read, slice_get_within}
use Rattle.format_toml_nodes.proofs.Changes.{keeps_placed, keeps_then}
use Rattle.format_toml_nodes.proofs.Elements.{element_at, number_more}
use Rattle.format_toml_nodes.proofs.links.put_elements.Goals as goal

pub loop-index-preserved : goal.loop-index-preserved
loop-index-preserved g c =
    let slots = c.args.slots.now in
    let s = c.index-slots-parent.result in
    let at = slice_get_read slots _ c.args.parent s refl c.requires c.index-slots-parent.is in
    let elements = c.elements-elements.result.now in
    let index = c.loop-index.index in
    let j : ℕ = get_or elements index 0 in
    let here : slice_get elements index ≡ Some j = slice_get-get_or elements index 0
    (omega (arith, c.loop-index-test.true, c.loop-index.auto.index-end)) in
    record {
      keeps = keeps_then c.loop-index.invariant.keeps
          (keeps_placed (element_at c.args.parent index) c.put_position.ensures);
      numbers = number_more slots c.args.parent c.args.nodes.now c.requires s at index j
          (subst (λ l. slice_get l index ≡ Some j) c.elements-elements.ensures here)
          c.loop-index.nodes c.put_position.new.nodes c.put_position.ensures
          c.loop-index.invariant.numbers;
    }

pub returns : goal.returns
returns g c =
    let slots = c.args.slots.now in
    let s = c.index-slots-parent.result in
    let at = slice_get_read slots _ c.args.parent s refl c.requires c.index-slots-parent.is in
    let long = ap (λ l. length l) c.elements-elements.ensures in
    record {
      keeps = c.loop-index.invariant.keeps;
      numbers = λ tree path holds text t h.
          let (stay, numbers) = c.loop-index.invariant.numbers tree path holds text t h in
          let same : s ≡ t = same_Some s t (sym at ∙ h) in (
            stay,
            λ k j f. numbers k j (omega (
              arith,
              slice_get_within t.elements.items k j f,
              ap (λ u. length u.elements.items) same,
              long,
              c.loop-index-test.false,
              c.loop-index.auto.index-end,
            )) f,
          );
    }
