-- The entries of a slot, in sequence.
use Rattle.std.specs.Prelude.{◌≡◌, ◌⊎◌, ℕ, suc, Bool, true, false, cond, ◌<◌, ◌≤◌}
use Rattle.std.specs.Prelude.{List, [], ◌∷◌, length, slice_get, Some, None, take, Option}
use Rattle.std.specs.Borrow.{Bor}
use Rattle.std.specs.BTreeMap.{BTreeMap, is_at}
use Rattle.std.specs.List.{All}
use Rattle.std.specs.Cmp.Lexicographic.{slice_cmp}
use Rattle.std.specs.Map.{lookup}
use Rattle.std.specs.Ordering.{nat_cmp}
use Rattle.std.proofs.Common.{refl, sym, ap, subst, inl, inr, ◌∙◌, arith}
use Rattle.std.proofs.lemmas.Option.{get_or_from_slice_get, same_Some, slice_get_within}
use Rattle.format_toml_nodes.specs.Laying.{ChangesAt, Fits, InParent, IsPlacedAs, Puts, alone}
use Rattle.format_toml_nodes.specs.Laying.{name_len, names_len, total}
use Rattle.format_toml_nodes.specs.Nodes.{IsIn, of_kind}
use Rattle.format_toml_nodes.specs.declared.node.Span.{Span}
use Rattle.format_toml_nodes.specs.declared.node.TomlNode.{TomlNode}
use Rattle.format_toml_nodes.proofs.Changes.{changed_here, changed_others}
use Rattle.format_toml_nodes.proofs.Texts.{in_more, stands_put}
use Rattle.format_toml_tree.specs.Holds.{Holds, find}
use Rattle.format_toml_tree.specs.Paths.{Path, named}
use Rattle.format_toml_tree.specs.Runs.{Tree}
use Rattle.format_toml_tree.specs.declared.tree.Slot.{Slot}

-- what entries have at a name
abbrev pub find_in : List (Bor (List ℕ) × ℕ) → List ℕ → Option ℕ
find_in entries name = lookup (is_at (λ (k : Bor (List ℕ)). slice_cmp nat_cmp name k.now)) entries

-- the position of an entry
abbrev pub entry_at : ℕ → Span → TomlNode
entry_at parent name = record (alone (of_kind 0)) { parent = parent; name = name }

find_more : (name : List ℕ) (e : Bor (List ℕ) × ℕ) (others : List (Bor (List ℕ) × ℕ)) (j : ℕ)
    → find_in (e ∷ others) name ≡ Some j → (e.1 ≡ j) ⊎ (find_in others name ≡ Some j)
find_more name e others j f =
    by (is_at (λ (k : Bor (List ℕ)). slice_cmp nat_cmp name k.now) e.0) refl
  where
    by : (b : Bool) → is_at (λ (k : Bor (List ℕ)). slice_cmp nat_cmp name k.now) e.0 ≡ b
        → (e.1 ≡ j) ⊎ (find_in others name ≡ Some j)
    by true t = inl (same_Some _ _ (sym (ap (λ b. cond b (Some e.1) (find_in others name)) t) ∙ f))
    by false t = inr (sym (ap (λ b. cond b (Some e.1) (find_in others name)) t) ∙ f)

module _ {A : Type 0} (slots : List (Slot A)) (parent at : ℕ) (old : List ℕ)
    (before : List TomlNode) where
  -- The entries that are left are still to name, and those before them are.
  abbrev pub NamesSo : List (Bor (List ℕ) × ℕ) → ℕ → List ℕ → List TomlNode → Type 0
  NamesSo left end buffer nodes = (tree : Tree A) (path : ℕ → Path) → Holds slots tree path
      → end ≤ length buffer → (s : Slot A) → slice_get slots parent ≡ Some s
      → ((j : ℕ) → InParent (take at old) path (length slots) before j
      → InParent (take end buffer) path (length slots) nodes j)
      × ((name : List ℕ) (j : ℕ) → find s.places name ≡ Some j
      → (find_in left name ≡ Some j) ⊎ InParent (take end buffer) path (length slots) nodes j)

  -- Each remaining entry is the one that the slot has at its name.
  abbrev pub FoundSo : List (Bor (List ℕ) × ℕ) → Type 0
  FoundSo left = (s : Slot A) → slice_get slots parent ≡ Some s
      → (k : ℕ) (e : Bor (List ℕ) × ℕ) → slice_get left k ≡ Some e
      → find s.places e.0.now ≡ Some e.1

  pub found_more : (e : Bor (List ℕ) × ℕ) (others left : List (Bor (List ℕ) × ℕ))
      → left ≡ e ∷ others → FoundSo left → FoundSo others
  found_more e others left is so s g k x h =
      so s g (suc k) x (ap (λ l. slice_get l (suc k)) is ∙ h)

  module _ (within : parent < length slots) (e : Bor (List ℕ) × ℕ)
      (others left : List (Bor (List ℕ) × ℕ)) (is : left ≡ e ∷ others) (found : FoundSo left)
      (place : Span) (nodes after : List TomlNode) (buffer : List ℕ) (end next : ℕ)
      (new : List ℕ) (is_place : Fits e.0.now end place)
      (changes : ChangesAt (IsPlacedAs (entry_at parent place)) e.1 nodes after)
      (puts : Puts e.0.now end buffer next new) where
    pub name_more : NamesSo left end buffer nodes → NamesSo others next new after
    name_more so tree path holds fits s g =
        let room : next ≤ length buffer = omega (arith, puts.same, fits) in
        let (stay, names) = so tree path holds (omega (arith, puts.up, room)) s g in
        let here : path e.1 ≡ named e.0.now ∷ path parent =
        (holds.found parent s g e.0.now e.1 (found s g 0 e (ap (λ l. slice_get l 0) is))).1 in
        let count = length slots in
        let text = take next new in
        let is_in = IsPlacedAs (entry_at parent place) in
        let leads : (was it : TomlNode) → is_in was it → IsIn text path count (path e.1) it =
        λ was it same. subst (λ p. IsIn text path count p it) (sym here)
        (subst (λ n. IsIn text path count (named e.0.now ∷ path parent) n) (sym same) (
          within,
          refl,
          stands_put e.0.now end buffer next new place puts room is_place,
          refl,
          refl,
        )) in
        let grows : (p : Path) (it : TomlNode) → IsIn (take end buffer) path count p it
        → IsIn text path count p it = λ p it was.
        subst (λ l. IsIn l path count p it) (sym (puts.there room))
        (in_more (take end buffer) e.0.now path count p it was) in
        let others_so = changed_others (take end buffer) text path count e.1 is_in nodes after
        changes leads grows in (
          λ j leads. others_so j (stay j leads),
          λ name j f. elim (names name j f) [
            | inl h ↦ elim (find_more name e others j (ap (λ l. find_in l name) (sym is) ∙ h)) [
              | inl same
                  ↦ inr (subst (λ i. InParent text path count after i) same
                  (changed_here (take end buffer) text path count e.1 is_in nodes after
                  changes leads grows))
              | inr more ↦ inl more
            ]
            | inr leads ↦ inr (others_so j leads)
          ],
        )

none_left : (left : List (Bor (List ℕ) × ℕ)) (name : List ℕ) (j : ℕ) → left ≡ []
    → find_in left name ≡ Some j → ⊥
none_left left name j is f = never (sym (ap (λ l. find_in l name) is) ∙ f)
  where
    never : None ≡ Some j → ⊥
    never e = cc

module _ {A : Type 0} (slots : List (Slot A)) (parent at : ℕ) (old : List ℕ)
    (before : List TomlNode) where
  module _ (m : BTreeMap (Bor (List ℕ)) ℕ) (left : List (Bor (List ℕ) × ℕ))
      (is : left ≡ m.entries) (s : Slot A) (there : slice_get slots parent ≡ Some s)
      (places : m ≡ s.places) where
    same_slot : (t : Slot A) → slice_get slots parent ≡ Some t → m ≡ t.places
    same_slot t g = places ∙ ap (λ u. u.places) (slot_same (sym there ∙ g))
      where
        slot_same : {x y : Slot A} → Some x ≡ Some y → x ≡ y
        slot_same e = cc

    pub found_first : All (λ e. find m e.0.now ≡ Some e.1) m.entries
        → FoundSo slots parent at old before left
    found_first all t g k e h =
        let there_k : slice_get m.entries k ≡ Some e = ap (λ l. slice_get l k) (sym is) ∙ h in
        let P : Bor (List ℕ) × ℕ → Type 0 = λ x. find m x.0.now ≡ Some x.1 in
        ap (λ n. find n e.0.now) (sym (same_slot t g))
        ∙ subst P (get_or_from_slice_get m.entries k e e there_k)
        (all k e (slice_get_within m.entries k e there_k))

    pub names_first : NamesSo slots parent at old before left at old before
    names_first tree path holds fits t g = (
      λ j leads. leads,
      λ name j f. inl (ap (λ l. find_in l name) is ∙ ap (λ n. find n name) (same_slot t g) ∙ f),
    )

    pub count_first : (t : Slot A) → slice_get slots parent ≡ Some t
        → total name_len left ≡ names_len t
    count_first t g =
        ap (λ l. total name_len l) is ∙ ap (λ n. total name_len n.entries) (same_slot t g)

  pub names_end : (left : List (Bor (List ℕ) × ℕ)) → left ≡ [] → (end : ℕ) (buffer : List ℕ)
      (nodes : List TomlNode) → NamesSo slots parent at old before left end buffer nodes
      → (tree : Tree A) (path : ℕ → Path) → Holds slots tree path → end ≤ length buffer
      → (s : Slot A) → slice_get slots parent ≡ Some s
      → ((j : ℕ) → InParent (take at old) path (length slots) before j
      → InParent (take end buffer) path (length slots) nodes j)
      × ((name : List ℕ) (j : ℕ) → find s.places name ≡ Some j
      → InParent (take end buffer) path (length slots) nodes j)
  names_end left is end buffer nodes so tree path holds fits s g =
      let (stay, names) = so tree path holds fits s g in (
        stay,
        λ name j f. elim (names name j f) [
          | inl h ↦ absurd (none_left left name j is h)
          | inr leads ↦ leads
        ],
      )
