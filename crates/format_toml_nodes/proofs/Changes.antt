-- Nodes that change, one at a time.
use Rattle.std.specs.Prelude.{ℕ}
use Rattle.std.specs.Prelude.{List}
use Rattle.std.proofs.Common.{refl, sym, ap, subst, inl, inr, ◌∙◌}
use Rattle.format_toml_nodes.specs.Laying.{ChangesAt, Each, InParent, IsPlacedAs, Keeps}
use Rattle.format_toml_nodes.specs.Nodes.{IsIn}
use Rattle.format_toml_nodes.specs.declared.node.TomlNode.{TomlNode}
use Rattle.format_toml_tree.specs.Paths.{Path}

pub keeps_none : (nodes : List TomlNode) → Each Keeps nodes nodes
keeps_none nodes = record { same = refl; each = λ k it g. (it, g, (refl, refl, refl)) }

pub keeps_then : {a b c : List TomlNode} → Each Keeps a b → Each Keeps b c → Each Keeps a c
keeps_then first then = record {
  same = then.same ∙ first.same;
  each = λ k it g.
      let (mid, h, (e, f, n)) = then.each k it g in
      let (was, i, (e2, f2, n2)) = first.each k mid h in
      (was, i, (e ∙ e2, f ∙ f2, n ∙ n2));
}

pub keeps_placed : (at : TomlNode) {j : ℕ} {old new : List TomlNode}
    → ChangesAt (IsPlacedAs at) j old new → Each Keeps old new
keeps_placed at changes = record {
  same = changes.same;
  each = λ k it g. elim (changes.each k it g) [
    | inl (a, (was, h, e)) ↦
        (was, h, (ap (λ n. n.value) e, ap (λ n. n.first) e, ap (λ n. n.next) e))
    | inr (a, h) ↦ (it, h, (refl, refl, refl))
  ];
}

-- One more node has its position; the others keep theirs.
module _ (text after : List ℕ) (path : ℕ → Path) (count j : ℕ)
    (so : TomlNode → TomlNode → Type 0) (old new : List TomlNode) (changes : ChangesAt so j old new)
    (leads : (was it : TomlNode) → so was it → IsIn after path count (path j) it)
    (grows : (p : Path) (it : TomlNode) → IsIn text path count p it → IsIn after path count p it)
  where
    pub changed_others : (k : ℕ) → InParent text path count old k → InParent after path count new k
    changed_others k is it g = elim (changes.each k it g) [
      | inl (a, (was, h, e)) ↦
          subst (λ i. IsIn after path count (path i) it) (sym a) (leads was it e)
      | inr (a, h) ↦ grows (path k) it (is it h)
    ]

    pub changed_here : InParent after path count new j
    changed_here it g = elim (changes.each j it g) [
      | inl (a, (was, h, e)) ↦ leads was it e
      | inr (a, h) ↦ absurd (a refl)
    ]
