-- The nodes that are put and joined are those of the tree.
use Rattle.std.specs.Prelude.{◌≡◌, ℕ, ◌+◌, ◌<◌, ◌≤◌}
use Rattle.std.specs.Prelude.{List, [], ◌++◌, drop, length, min, slice_get, Some, take}
use Rattle.std.proofs.Common.{refl, sym, ap, subst, inl, inr, ◌∙◌, arith}
use Rattle.std.proofs.Common.{length-take}
use Rattle.std.proofs.lemmas.List.{take-append-le, take_all}
use Rattle.std.proofs.lemmas.Option.{slice_get_within}
use Rattle.std.proofs.lemmas.Slice.{drop-append-drop}
use Rattle.format_toml_nodes.specs.Laying.{InParent, JoinsFrom, PutsAll, PutsLinks}
use Rattle.format_toml_nodes.specs.Laying.{PutsValues, alone, most, names_len, text_len, total}
use Rattle.format_toml_nodes.specs.Nodes.{AreNodesOf, IsIn, Shows}
use Rattle.format_toml_nodes.specs.declared.node.TomlNode.{TomlNode}
use Rattle.format_toml_nodes.specs.declared.node.TomlValue.{TomlValue}
use Rattle.format_toml_nodes.proofs.Joins.{first_stays}
use Rattle.format_toml_nodes.proofs.Reached.{each_below}
use Rattle.format_toml_tree.proofs.Reached.{reach}
use Rattle.format_toml_nodes.proofs.Texts.{capped_both, shows_more, stands_none}
use Rattle.format_toml_tree.specs.Added.{some_there}
use Rattle.format_toml_tree.specs.Holds.{HoldsTree, node_at}
use Rattle.format_toml_tree.specs.Paths.{Path}
use Rattle.format_toml_tree.specs.Places.{nowhere}
use Rattle.format_toml_tree.specs.Rules.{Node as Given}
use Rattle.format_toml_tree.specs.Runs.{Tree}
use Rattle.format_toml_tree.specs.declared.tree.Slot.{Slot}

-- the first node is in none
is_top : (text : List ℕ) (path : ℕ → Path) (count : ℕ) (it : TomlNode) → 0 < count
    → path 0 ≡ [] → it ≡ alone it.value → IsIn text path count (path 0) it
is_top text path count it some top e =
    subst (λ p. IsIn text path count p it) (sym top)
    (subst (λ n. IsIn text path count [] n) (sym e) (some, top, stands_none text, refl, refl))

-- values, and then links
pub puts_all : {A : Type 0} (slots : List (Slot A)) (old : List ℕ) (before : List TomlNode)
    (end : ℕ) (text : List ℕ) (mid : List TomlNode) (last : ℕ) (new : List ℕ)
    (after : List TomlNode) → PutsValues slots old before end text mid
    → PutsLinks slots end text mid last new after → PutsAll slots old before last new after
puts_all slots old before end text mid last new after values links = record {
  count = capped_both _ _ end last values.count links.count;
  same = (links.grows.same ∙ values.same.0, links.keeps.same ∙ values.same.1);
  shows = λ fits k s it g h.
      let (was, i, (e, f, n)) = links.keeps.each k it h in
      let room : last ≤ length text = omega (arith, values.same.0, fits) in
      let (more, grown) = links.grows.there room in
      let P : TomlValue → Type 0 = λ v. Shows (take last new) v (node_at s) in
      let Q : List ℕ → Type 0 = λ l. Shows l was.value (node_at s) in
      subst P (sym e) (subst Q (sym grown) (shows_more (take end text) was.value (node_at s) more
      (values.shows (omega (arith, links.grows.up, fits)) k s was g i)));
  apart = λ k it within h.
      let (was, i, (e, f, n)) = links.keeps.each k it h in
      let single = values.apart k was within i in
      (f ∙ ap (λ x. x.first) single, n ∙ ap (λ x. x.next) single);
  leads = λ tree path holds fits.
      let (stay, below) = links.leads tree path holds (omega (arith, values.same.0, fits)) in
      let P = is_top (take end text) path (length slots) in
      (λ some. stay 0 (λ it g. P it some holds.top (values.apart 0 it some g)), below);
}

pub nodes_of : {A : Type 0} (slots : List (Slot A)) (old : List ℕ) (before : List TomlNode)
    (end : ℕ) (text : List ℕ) (mid new : List TomlNode) (given : Tree A)
    → length before ≡ length slots → end ≤ length old
    → PutsAll slots old before end text mid → JoinsFrom 1 mid new → HoldsTree slots given
    → AreNodesOf given (take end text) new
nodes_of slots old before end text mid new given sized fits puts joins (path, holds, some) =
    let count : length new ≡ length slots = joins.stays.same ∙ puts.same.1 ∙ sized in
    let inside : (j : ℕ) → j < length new → j < length slots = λ j w. omega (arith, count, w) in
    let within : (j : ℕ) (it : TomlNode) → slice_get new j ≡ Some it → j < length slots =
    λ j it g. inside j (slice_get_within new j it g) in
    let (top, below) = puts.leads given path holds fits in
    let leads = each_below holds some (InParent (take end text) path (length slots) mid)
    (top some) below in
    let is_in : (j : ℕ) (it : TomlNode) → slice_get new j ≡ Some it
    → IsIn (take end text) path (length new) (path j) it = λ j it g.
    let (was, h, s) = joins.stays.each j it g in
    subst (λ n. IsIn (take end text) path (length new) (path j) n) (sym s)
    (subst (λ n. IsIn (take end text) path n (path j) was) (sym count)
    (leads j (within j it g) was h)) in
    record {
      path = path;
      top = holds.top;
      some = omega (arith, count, some);
      there = λ j w none.
          let (s, g) = some_there slots j (inside j w) in
          nowhere holds j s g (path j) none refl;
      shows = λ j it g.
          let (was, h, s) = joins.stays.each j it g in
          let (slot, at) = some_there slots j (within j it g) in
          let P : Given _ → Type 0 = λ n. Shows (take end text) it.value n in
          let Q : TomlValue → Type 0 = λ v. Shows (take end text) v (node_at slot) in
          subst P (sym (holds.there j slot at))
          (subst Q (sym (ap (λ n. n.value) s)) (puts.shows fits j slot was at h));
      is_in = is_in;
      joined = λ j it g. record {
        first = first_stays joins.stays j 1 it.first (joins.firsts j it g);
        next = λ more. first_stays joins.stays it.parent (j + 1) it.next
            (joins.nexts j it (omega (arith, more)) g
            (omega (arith, joins.stays.same, (is_in j it g).0)));
        alone = λ first. joins.others j it (omega (arith, first)) g;
      };
      apart = λ i j a b e. holds.apart i j (inside i a) (inside j b) e;
      deeper = λ i j e a b f. holds.deeper i j e (inside i a) (inside j b) f;
      rising = λ i j m n p a b f g. holds.rising i j m n p (inside i a) (inside j b) f g;
      all = λ p. elim (reach holds some p) [
        | inl none ↦ inl none
        | inr (j, w, at) ↦ inr (j, omega (arith, count, w), at)
      ];
    }

-- what is behind a front that is written stays
pub behind : {X : Type 0} (n : ℕ) (old new : List X) → n ≤ length old
    → length new ≡ length (take n old) → drop n (new ++ drop n old) ≡ drop n old
behind n old new room same =
    drop-append-drop n old new n (omega arith) (omega (arith, same, length-take n old, room))

front : {X : Type 0} (n : ℕ) (xs ys : List X) → length xs ≡ n → take n (xs ++ ys) ≡ xs
front n xs ys long =
    take-append-le n xs ys (omega (arith, long)) ∙ take_all n xs (omega (arith, long))

-- as a call writes them: into the first of the caller's bytes and entries
pub written : {A : Type 0} (slots items : List (Slot A)) → slots ≡ items → (count bytes : ℕ)
    → (old text : List ℕ) (all mid new : List TomlNode) (end : ℕ) → count ≡ length items
    → bytes ≡ min (total text_len items + total names_len items) most → bytes ≤ length old
    → count ≤ length all → PutsAll slots (take bytes old) (take count all) end text mid
    → JoinsFrom 1 mid new → (given : Tree A) → HoldsTree items given
    → AreNodesOf given (take bytes (text ++ drop bytes old)) (take count (new ++ drop count all))
written slots items is count bytes old text all mid new end counted sized room places puts joins
    given holds =
    let put : PutsAll items (take bytes old) (take count all) end text mid =
    subst (λ l. PutsAll l (take bytes old) (take count all) end text mid) is puts in
    let same : end ≡ bytes = put.count ∙ sym sized in
    let some : length (take bytes old) ≡ bytes = omega (arith, length-take bytes old, room) in
    let many : length (take count all) ≡ count = omega (arith, length-take count all, places) in
    let nodes = nodes_of items (take bytes old) (take count all) end text mid new given
    (many ∙ counted) (omega (arith, same, some)) put joins holds in
    let shown : take end text ≡ take bytes (text ++ drop bytes old) =
    take_all end text (omega (arith, put.same.0, some, same))
    ∙ sym (front bytes text (drop bytes old) (put.same.0 ∙ some)) in
    subst (λ l. AreNodesOf given (take bytes (text ++ drop bytes old)) l)
    (sym (front count new (drop count all) (joins.stays.same ∙ put.same.1 ∙ many)))
    (subst (λ l. AreNodesOf given l new) shown nodes)
