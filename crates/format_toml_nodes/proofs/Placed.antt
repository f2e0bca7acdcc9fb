-- The values that are written for each slot.
use Rattle.std.specs.Prelude.{◌≡◌, ℕ, ◌+◌, ◌<◌, ◌≤◌}
use Rattle.std.specs.Prelude.{List, length, set, slice_get, Some, take}
use Rattle.std.proofs.Common.{sym, ap, subst, inl, inr, ◌∙◌, arith}
use Rattle.std.proofs.lemmas.Option.{same_Some}
use Rattle.format_toml_nodes.specs.Laying.{Fits, Puts, alone}
use Rattle.format_toml_nodes.specs.Nodes.{Shows, text_of, value_of}
use Rattle.format_toml_nodes.specs.declared.node.TomlNode.{TomlNode}
use Rattle.format_toml_nodes.proofs.Texts.{shows_more, stands_put}
use Rattle.format_toml_tree.specs.Holds.{node_at}
use Rattle.format_toml_tree.specs.Places.{get_set}
use Rattle.format_toml_tree.specs.declared.tree.Slot.{Slot}

module _ {A : Type 0} (slots : List (Slot A)) where
  -- The nodes of the slots before this one have their values.
  abbrev pub ShowsSo : ℕ → ℕ → List ℕ → List TomlNode → Type 0
  ShowsSo place end buffer nodes = end ≤ length buffer → (k : ℕ) (s : Slot A) (it : TomlNode)
      → k < place → slice_get slots k ≡ Some s → slice_get nodes k ≡ Some it
      → Shows (take end buffer) it.value (node_at s)

  abbrev pub ApartSo : ℕ → List TomlNode → Type 0
  ApartSo place nodes = (k : ℕ) (it : TomlNode) → k < place → slice_get nodes k ≡ Some it
      → it ≡ alone it.value

  pub apart_more : (place : ℕ) (node : TomlNode) (before after : List TomlNode)
      → node ≡ alone node.value → after ≡ set before place node → ApartSo place before
      → ApartSo (place + 1) after
  apart_more place node before after none is so k it within g =
      elim (get_set before place node it k (ap (λ l. slice_get l k) (sym is) ∙ g)) [
        | inl (a, b) ↦ b ∙ none ∙ ap (λ n. alone n.value) (sym b)
        | inr (a, h) ↦ so k it (omega (arith, within, a)) h
      ]

  module _ (place : ℕ) (s : Slot A) (at : slice_get slots place ≡ Some s) (node : TomlNode)
      (before after : List TomlNode) (buffer : List ℕ) (end next : ℕ) (new : List ℕ)
      (is_value : node.value ≡ record (value_of (node_at s)) { text = node.value.text })
      (is_place : Fits (text_of (node_at s)) end node.value.text)
      (is : after ≡ set before place node) (puts : Puts (text_of (node_at s)) end buffer next new)
    where
      pub value_more : ShowsSo place end buffer before → ShowsSo (place + 1) next new after
      value_more so fits k t it within g h =
          elim (get_set before place node it k (ap (λ l. slice_get l k) (sym is) ∙ h)) [
            | inl (a, b) ↦
                let same : s ≡ t =
                same_Some s t (sym at ∙ ap (λ n. slice_get slots n) (sym a) ∙ g) in
                let P : Slot A → Type 0 = λ u. Shows (take next new) it.value (node_at u) in
                let Q : TomlNode → Type 0 = λ n. Shows (take next new) n.value (node_at s) in
                subst P same (subst Q (sym b) (
                  is_value,
                  stands_put (text_of (node_at s)) end buffer next new node.value.text puts
                      (omega (arith, puts.same, fits)) is_place,
                ))
            | inr (a, f) ↦
                let room : next ≤ length buffer = omega (arith, puts.same, fits) in
                let R : List ℕ → Type 0 = λ l. Shows l it.value (node_at t) in
                subst R (sym (puts.there room)) (shows_more (take end buffer) it.value
                (node_at t) (text_of (node_at s))
                (so (omega (arith, puts.up, room)) k t it (omega (arith, within, a)) g f))
          ]
