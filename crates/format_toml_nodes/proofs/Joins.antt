-- Nodes that are joined, the last first.
use Rattle.std.specs.Prelude.{◌≡◌, ◌⊎◌, ℕ, zero, suc, ◌+◌, ◌≤◌}
use Rattle.std.specs.Prelude.{List, length, slice_get, Some}
use Rattle.std.proofs.Common.{refl, sym, ap, subst, inl, inr, ◌∙◌, arith}
use Rattle.std.proofs.lemmas.Option.{same_Some, slice_get_within}
use Rattle.format_toml_nodes.specs.Laying.{ChangesAt, Each, IsAbove, IsBefore}
use Rattle.format_toml_nodes.specs.Laying.{JoinsFrom, JoinsOne, Stays}
use Rattle.format_toml_nodes.specs.Nodes.{HasParent, IsFirstIn}
use Rattle.format_toml_nodes.proofs.Elements.{last}
use Rattle.format_toml_nodes.specs.declared.node.TomlNode.{TomlNode}
use Rattle.format_toml_tree.specs.Added.{some_there}

then_stays : (a b c : TomlNode) → Stays a b → Stays b c → Stays a c
then_stays a b c e f =
    f ∙ ap {A = TomlNode} (λ n. record n { first = c.first; next = c.next }) e

same_stays : (was it : TomlNode) → it ≡ was → Stays was it
same_stays was it e = ap {A = TomlNode} (λ n. record n { first = it.first; next = it.next }) e

stays_then : {a b c : List TomlNode} → Each Stays a b → Each Stays b c → Each Stays a c
stays_then first then = record {
  same = then.same ∙ first.same;
  each = λ k it g.
      let (mid, h, s) = then.each k it g in
      let (was, i, t) = first.each k mid h in
      (was, i, then_stays was mid it t s);
}

-- ---- parents stay

pub parent_was : {old new : List TomlNode} → Each Stays old new → (k i : ℕ) → HasParent new k i
    → HasParent old k i
parent_was stays k i (it, g, e) =
    let (was, h, s) = stays.each k it g in (was, h, sym (ap (λ n. n.parent) s) ∙ e)

pub parent_is : {old new : List TomlNode} → Each Stays old new → (k i : ℕ) → HasParent old k i
    → HasParent new k i
parent_is {old} {new} stays k i (was, g, e) =
    let (it, h) = some_there new k (omega (arith, stays.same, slice_get_within old k was g)) in
    let (other, f, s) = stays.each k it h in
    (it, h, ap (λ n. n.parent) s ∙ ap (λ n. n.parent) (same_Some _ _ (sym f ∙ g)) ∙ e)

pub first_stays : {old new : List TomlNode} → Each Stays old new → (i from r : ℕ)
    → IsFirstIn old i from r → IsFirstIn new i from r
first_stays stays i from r (inl (none, never)) =
    inl (none, λ k le has. never k le (parent_was stays k i has))
first_stays stays i from r (inr (le, has, never)) =
    inr (
      le,
      parent_is stays r i has,
      λ k least less it. never k least less (parent_was stays k i it),
    )

-- ---- one more

module _ (number parent next : ℕ) (old mid new : List TomlNode) (node above : TomlNode)
    (at : slice_get old number ≡ Some node) (in_it : node.parent ≡ parent)
    (over : slice_get old parent ≡ Some above) (is_next : next ≡ above.first)
    (one : ChangesAt (IsBefore next) number old mid)
    (two : ChangesAt (IsAbove number) parent mid new) where
  abbrev Both : ℕ → TomlNode → Type 0
  Both j it = (was : TomlNode) × (slice_get old j ≡ Some was) × Stays was it
      × (((j ≡ parent) × (it.first ≡ number)) ⊎ ((j ≡ parent → ⊥) × (it.first ≡ was.first)))
      × (((j ≡ number) × (it.next ≡ next)) ⊎ ((j ≡ number → ⊥) × (it.next ≡ was.next)))

  both : (j : ℕ) (it : TomlNode) → slice_get new j ≡ Some it → Both j it
  both j it g = elim (two.each j it g) [
    | inl (a, (m, h, s)) ↦
        let f = ap (λ n. n.first) s in
        let n = ap (λ n. n.next) s in
        let over = same_stays (record m { first = number }) it s in
        elim (one.each j m h) [
          | inl (b, (was, i, t)) ↦ (
            was,
            i,
            then_stays was m it (same_stays (record was { next = next }) m t) over,
            inl (a, f),
            inl (b, n ∙ ap (λ x. x.next) t),
          )
          | inr (b, i) ↦ (m, i, over, inl (a, f), inr (b, n))
        ]
    | inr (a, h) ↦ elim (one.each j it h) [
      | inl (b, (was, i, t)) ↦ (
        was,
        i,
        same_stays (record was { next = next }) it t,
        inr (a, ap (λ n. n.first) t),
        inl (b, ap (λ n. n.next) t),
      )
      | inr (b, i) ↦ (it, i, refl, inr (a, refl), inr (b, refl))
    ]
  ]

  pub joins_one : JoinsOne number old new
  joins_one = record {
    same = two.same ∙ one.same;
    stays = record {
      same = two.same ∙ one.same;
      each = λ j it g. let (was, i, s, f, n) = both j it g in (was, i, s);
    };
    first = λ j it g.
        let (was, i, s, f, n) = both j it g in
        elim f [
          | inl (a, e) ↦ inl ((node, at, in_it ∙ sym a), e)
          | inr (a, e) ↦ inr (
            λ has. a (sym has.2 ∙ ap (λ x. x.parent) (same_Some _ _ (sym has.1 ∙ at)) ∙ in_it),
            (was, i, e),
          )
        ];
    next = λ it g within.
        let (was, i, s, f, n) = both number it g in
        let q : it.parent ≡ parent =
        ap (λ x. x.parent) s ∙ ap (λ x. x.parent) (same_Some _ _ (sym i ∙ at)) ∙ in_it in
        elim n [
          | inl (b, e) ↦ (above, ap (λ m. slice_get old m) q ∙ over, e ∙ is_next)
          | inr (b, e) ↦ absurd (b refl)
        ];
    others = λ j it other g.
        let (was, i, s, f, n) = both j it g in
        elim n [
          | inl (b, e) ↦ absurd (other b)
          | inr (b, e) ↦ (was, i, e)
        ];
  }

-- a node that is in none
pub joins_none : (number : ℕ) (old : List TomlNode) (node : TomlNode)
    → slice_get old number ≡ Some node → length old ≤ node.parent → JoinsOne number old old
joins_none number old node at past = record {
  same = refl;
  stays = record { same = refl; each = λ j it g. (it, g, refl) };
  first = λ j it g. inr (
    λ has.
        let e : node.parent ≡ j = ap (λ x. x.parent) (same_Some _ _ (sym at ∙ has.1)) ∙ has.2 in
        omega (arith, e, past, slice_get_within old j it g),
    (it, g, refl),
  );
  next = λ it g within.
      let e : it.parent ≡ node.parent = ap (λ x. x.parent) (same_Some _ _ (sym g ∙ at)) in
      absurd (omega (arith, e, within, past));
  others = λ j it other g. (it, g, refl);
}

-- ---- all of them

module _ (p : ℕ) (old nodes new : List TomlNode) (joins : JoinsFrom (p + 1) old nodes)
    (one : JoinsOne p nodes new) where
  first_more : (j r : ℕ) → (HasParent nodes p j → ⊥) → IsFirstIn old j (p + 1) r
      → IsFirstIn old j p r
  first_more j r not (inl (none, never)) = inl (
    none,
    λ k le has. elim (last p k (omega (arith, le))) [
      | inl e ↦ not (parent_is joins.stays p j (subst (λ n. HasParent old n j) (sym e) has))
      | inr more ↦ never k (omega (arith, more)) has
    ],
  )
  first_more j r not (inr (le, has, never)) = inr (
    omega (arith, le),
    has,
    λ k least less it. elim (last p k (omega (arith, least))) [
      | inl e ↦ not (parent_is joins.stays p j (subst (λ n. HasParent old n j) (sym e) it))
      | inr more ↦ never k (omega (arith, more)) less it
    ],
  )

  pub joins_more : JoinsFrom p old new
  joins_more = record {
    stays = stays_then joins.stays one.stays;
    firsts = λ j it g. elim (one.first j it g) [
      | inl (has, e) ↦ inr (
        omega (arith, e),
        subst (λ n. HasParent old n j) (sym e) (parent_was joins.stays p j has),
        λ k le less it2. omega (arith, le, less, e),
      )
      | inr (not, (was, h, e)) ↦ subst (λ n. IsFirstIn old j p n) (sym e)
          (first_more j was.first not (joins.firsts j was h))
    ];
    nexts = λ j it le g within. elim (last p j (omega (arith, le))) [
      | inl same ↦
          let here : slice_get new p ≡ Some it = ap (λ n. slice_get new n) same ∙ g in
          let (above, h, e) = one.next it here (omega (arith, within, joins.stays.same)) in
          let P : ℕ → Type 0 = λ n. IsFirstIn old it.parent (n + 1) it.next in
          subst P same (subst (λ n. IsFirstIn old it.parent (p + 1) n) (sym e)
          (joins.firsts it.parent above h))
      | inr more ↦
          let (was, h, e) = one.others j it (λ same. omega (arith, same, more)) g in
          let (mid, i, s) = one.stays.each j it g in
          let q : it.parent ≡ was.parent =
          ap (λ x. x.parent) s ∙ ap (λ x. x.parent) (same_Some _ _ (sym i ∙ h)) in
          let P : ℕ → Type 0 = λ n. IsFirstIn old n (j + 1) it.next in
          subst P (sym q) (subst (λ n. IsFirstIn old was.parent (j + 1) n) (sym e)
          (joins.nexts j was (omega (arith, more)) h (omega (arith, within, q))))
    ];
    others = λ j it less g.
        let (was, h, e) = one.others j it (λ same. omega (arith, same, less)) g in
        e ∙ joins.others j was (omega (arith, less)) h;
  }

pub joins_end : (from : ℕ) (old nodes : List TomlNode) → JoinsFrom from old nodes → from ≤ 1
    → (from ≡ 0 → length old ≡ 0) → JoinsFrom 1 old nodes
joins_end zero old nodes joins few none = record {
  stays = joins.stays;
  firsts = λ j it g.
      absurd (omega (arith, slice_get_within nodes j it g, joins.stays.same, none refl));
  nexts = λ j it le g within. absurd (omega (arith, within, none refl));
  others = λ j it less g.
      absurd (omega (arith, slice_get_within nodes j it g, joins.stays.same, none refl));
}
joins_end (suc zero) old nodes joins few none = joins
joins_end (suc (suc n)) old nodes joins few none = absurd (omega (arith, few))
