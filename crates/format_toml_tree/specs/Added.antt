-- A place that is added below another one holds what is put there.
use Rattle.std.specs.Prelude.{◌≡◌, ◌⊎◌, ℕ, zero, suc, ◌+◌, ◌<◌, ◌≤◌, ◌==◌, Bool, true, false}
use Rattle.std.specs.Prelude.{cond}
use Rattle.std.specs.Prelude.{List, [], ◌∷◌, ◌++◌, length, set, Option, Some, None, slice_get}
use Rattle.std.proofs.Common.{refl, sym, ap, subst, inl, inr, ◌∙◌, arith}
use Rattle.std.proofs.lemmas.Bool.{cases_eq}
use Rattle.std.proofs.lemmas.Bool.Decides.{Decides-eqb}
use Rattle.std.proofs.lemmas.List.{length-append, length-set}
use Rattle.std.proofs.lemmas.Option.{slice_get_within}
use Rattle.format_toml_tree.specs.Paths.{Path, Step, last_name, named, placed, put, put_here}
use Rattle.format_toml_tree.specs.Paths.{first_same, others_same, put_apart, same_place}
use Rattle.format_toml_tree.specs.Rules.{Node, nothing}
use Rattle.format_toml_tree.specs.Runs.{Tree}
use Rattle.format_toml_tree.specs.Holds.{Contains, Goes, Holds, Lists, find, node_at}
use Rattle.format_toml_tree.specs.Places.{get_push, get_set, longer, nowhere, some_node}
use Rattle.format_toml_tree.specs.declared.tree.Slot.{Slot}

-- the paths of one slot more, where the slot `n` has the path `q`
abbrev pub more_paths : ℕ → Path → (ℕ → Path) → ℕ → Path
more_paths n q path i = cond (n == i) q (path i)

more_here : (n : ℕ) (q : Path) (path : ℕ → Path) (i : ℕ) → i ≡ n → more_paths n q path i ≡ q
more_here n q path i e =
    ap (λ b. cond b q (path i)) ((Decides-eqb n i).1 (sym e))

more_there : (n : ℕ) (q : Path) (path : ℕ → Path) (i : ℕ) → (i ≡ n → ⊥)
    → more_paths n q path i ≡ path i
more_there n q path i apart = by (n == i) refl
  where
    by : (b : Bool) → n == i ≡ b → more_paths n q path i ≡ path i
    by true e = absurd (apart (sym ((Decides-eqb n i).0 e)))
    by false e = ap (λ b. cond b q (path i)) e

none_some : {X : Type 0} {x : X} → None ≡ Some x → ⊥
none_some e = cc

some_number : {j k : ℕ} → Some j ≡ Some k → j ≡ k
some_number e = cc

pub get_once : {X : Type 0} {x y : X} (r : Option X) → r ≡ Some x → r ≡ Some y → x ≡ y
get_once r f g = cc

pub some_there : {X : Type 0} (xs : List X) (i : ℕ) → i < length xs
    → (x : X) × (slice_get xs i ≡ Some x)
some_there [] i w = absurd (omega (arith, w))
some_there (x ∷ xs) zero w = (x, refl)
some_there (x ∷ xs) (suc i) w = some_there xs i (omega (arith, w))

module _ {A : Type 0} where
  -- An added slot and its parent: the slot is one step below the parent, and nothing is below it.
  pub record AddsBelow (e : Step) (place : ℕ) (was now fresh : Slot A) : Type 0 where
    pub none_found : (name : List ℕ) → find fresh.places name ≡ None
    pub no_elements : fresh.elements.items ≡ []
    pub finds : (name : List ℕ) → ((named name ≡ e) × (find now.places name ≡ Some place))
        ⊎ ((named name ≡ e → ⊥) × (find now.places name ≡ find was.places name))
    pub gets : (k : ℕ) → ((placed k ≡ e) × (slice_get now.elements.items k ≡ Some place))
        ⊎ ((placed k ≡ e → ⊥) × (slice_get now.elements.items k ≡ slice_get was.elements.items k))
    pub beyond : (k : ℕ) → length now.elements.items ≤ k
        → (placed k ≡ e → ⊥) × (length was.elements.items ≤ k)
    pub last : (k : ℕ) → placed k ≡ e → length was.elements.items ≤ k
    pub kind : now.kind ≡ was.kind
    pub depth : now.depth ≡ was.depth
    pub depth_below : fresh.depth ≡ was.depth + 1
    pub name : now.name ≡ was.name
    pub name_below : fresh.name.now ≡ last_name (e ∷ [])
    pub lists : Lists now
    pub lists_below : Lists fresh

  module _ {slots : List (Slot A)} {tree : Tree A} {path : ℕ → Path}
      (is : Holds slots tree path) (above : ℕ) (e : Step) (was now fresh : Slot A)
      (at : slice_get slots above ≡ Some was) (none : tree (e ∷ path above) ≡ nothing)
      (adds : AddsBelow e (length slots) was now fresh) where
    abbrev n : ℕ
    n = length slots

    abbrev q : Path
    q = e ∷ path above

    abbrev grown : List (Slot A)
    grown = set (slots ++ fresh ∷ []) above now

    abbrev paths : ℕ → Path
    paths = more_paths n q path

    abbrev node : Node A
    node = node_at now

    abbrev first : Tree A
    first = put tree (path above) node

    abbrev then_tree : Tree A
    then_tree = put first q (node_at fresh)

    count : length grown ≡ n + 1
    count = length-set (slots ++ fresh ∷ []) above now ∙ length-append slots (fresh ∷ [])

    above_within : above < n
    above_within = slice_get_within slots above was at

    old_path : (i : ℕ) → i < n → paths i ≡ path i
    old_path i w = more_there n q path i (λ f. omega (arith, w, f))

    -- a place is an older one, or the one above, or the new one
    data Which (i : ℕ) (s : Slot A) : Type 0 where
      older : (i ≡ above → ⊥) → slice_get slots i ≡ Some s → Which i s
      upper : i ≡ above → s ≡ now → Which i s
      newest : i ≡ n → s ≡ fresh → Which i s

    which : (i : ℕ) (s : Slot A) → slice_get grown i ≡ Some s → Which i s
    which i s g = elim (get_set (slots ++ fresh ∷ []) above now s i g) [
      | inl (a, b) ↦ upper a b
      | inr (a, b) ↦ elim (get_push slots fresh s i b) [
        | inl h ↦ older a h
        | inr (c, d) ↦ newest c d
      ]
    ]

    -- what there is at other paths is as it was
    apart_tree : (p : Path) → (p ≡ q → ⊥) → (p ≡ path above → ⊥) → then_tree p ≡ tree p
    apart_tree p a b = put_apart first q (node_at fresh) p a ∙ put_apart tree (path above) node p b

    not_new : (i : ℕ) (s : Slot A) → slice_get slots i ≡ Some s → path i ≡ q → ⊥
    not_new i s g f = nowhere is i s g q none (sym f)

    still_none : (p : Path) → tree p ≡ nothing → (p ≡ q → ⊥) → then_tree p ≡ nothing
    still_none p f a = apart_tree p a (nowhere is above was at p f) ∙ f

    there_then : (i : ℕ) (s : Slot A) → Which i s → then_tree (paths i) ≡ node_at s
    there_then i s (older a g) =
        ap then_tree (old_path i (slice_get_within slots i s g))
        ∙ apart_tree (path i) (not_new i s g)
        (λ f. a (is.apart i above (slice_get_within slots i s g) above_within f))
        ∙ is.there i s g
    there_then i s (upper a b) =
        ap (λ k. then_tree (paths k)) a
        ∙ ap then_tree (old_path above above_within)
        ∙ put_apart first q (node_at fresh) (path above) (not_new above was at)
        ∙ put_here tree (path above) node (path above) refl
        ∙ ap (λ t. node_at t) (sym b)
    there_then i s (newest a b) =
        put_here first q (node_at fresh) (paths i) (more_here n q path i a)
        ∙ ap (λ t. node_at t) (sym b)

    inside : (i : ℕ) → i < length grown → (i < n) ⊎ (i ≡ n)
    inside i w = elim (cases_eq i n) [
      | inl same ↦ inr same
      | inr other ↦ inl (omega (arith, w, count, other))
    ]

    has_slot : (i : ℕ) → i < n → (s : Slot A) × (slice_get slots i ≡ Some s)
    has_slot i w = some_there slots i w

    apart_then : (i j : ℕ) → (i < n) ⊎ (i ≡ n) → (j < n) ⊎ (j ≡ n) → paths i ≡ paths j → i ≡ j
    apart_then i j (inl a) (inl b) f =
        is.apart i j a b (sym (old_path i a) ∙ f ∙ old_path j b)
    apart_then i j (inl a) (inr b) f =
        let (s, g) = has_slot i a in
        absurd (not_new i s g (sym (old_path i a) ∙ f ∙ more_here n q path j b))
    apart_then i j (inr a) (inl b) f =
        let (s, g) = has_slot j b in
        absurd (not_new j s g (sym (old_path j b) ∙ sym f ∙ more_here n q path i a))
    apart_then i j (inr a) (inr b) f = a ∙ sym b

    deeper_then : (i j : ℕ) (f : Step) → (i < n) ⊎ (i ≡ n) → (j < n) ⊎ (j ≡ n)
        → paths j ≡ f ∷ paths i → i < j
    deeper_then i j f (inl a) (inl b) g = is.deeper i j f a b
        (sym (old_path j b) ∙ g ∙ ap (λ p. f ∷ p) (old_path i a))
    deeper_then i j f (inl a) (inr b) g = omega (arith, a, b)
    deeper_then i j f (inr a) (inl b) g =
        let (s, h) = has_slot j b in
        absurd (nowhere is j s h (f ∷ q) (is.below q f none)
        (ap (λ p. f ∷ p) (sym (more_here n q path i a)) ∙ sym g ∙ old_path j b))
    deeper_then i j f (inr a) (inr b) g = absurd (longer f q
        (ap (λ p. f ∷ p) (sym (more_here n q path i a)) ∙ sym g ∙ more_here n q path j b))

    rising_then : (i j a b : ℕ) (p : Path) → (i < n) ⊎ (i ≡ n) → (j < n) ⊎ (j ≡ n)
        → paths i ≡ placed a ∷ p → paths j ≡ placed b ∷ p → a < b → i < j
    rising_then i j a b p (inl v) (inl w) f g less = is.rising i j a b p v w
        (sym (old_path i v) ∙ f) (sym (old_path j w) ∙ g) less
    rising_then i j a b p (inl v) (inr w) f g less = omega (arith, v, w)
    rising_then i j a b p (inr v) (inl w) f g less =
        let here : q ≡ placed a ∷ p = sym (more_here n q path i v) ∙ f in
        let past = adds.last a (sym (first_same here)) in
        let (s, h) = has_slot j w in
        absurd (nowhere is j s h (placed b ∷ path above)
        (is.beyond above was at b (omega (arith, past, less)))
        (ap (λ r. placed b ∷ r) (others_same here) ∙ sym g ∙ old_path j w))
    rising_then i j a b p (inr v) (inr w) f g less =
        let same : placed a ∷ p ≡ placed b ∷ p =
        sym f ∙ more_here n q path i v ∙ sym (more_here n q path j w) ∙ g in
        absurd (omega (arith, same_place (first_same same), less))

    -- what is below an older place
    abbrev Below : (i : ℕ) → Step → ℕ → Type 0
    Below i f j = (j < length grown) × (paths j ≡ f ∷ paths i)

    below_old : (i : ℕ) (f : Step) (j : ℕ) → i < n → (j < n) × (path j ≡ f ∷ path i) → Below i f j
    below_old i f j w (v, g) = (
      omega (arith, v, count),
      old_path j v ∙ g ∙ ap (λ p. f ∷ p) (sym (old_path i w)),
    )

    below_new : (i : ℕ) (f : Step) (j : ℕ) → i ≡ above → f ≡ e → j ≡ n → Below i f j
    below_new i f j a b c = (
      omega (arith, c, count),
      more_here n q path j c ∙ ap (λ g. g ∷ path above) (sym b)
          ∙ ap (λ p. f ∷ p) (sym (old_path above above_within) ∙ ap paths (sym a)),
    )

    found_then : (i : ℕ) (s : Slot A) → Which i s → (name : List ℕ) (j : ℕ)
        → find s.places name ≡ Some j → Below i (named name) j
    found_then i s (older a g) name j f =
        below_old i (named name) j (slice_get_within slots i s g) (is.found i s g name j f)
    found_then i s (upper a b) name j f = elim (adds.finds name) [
      | inl (c, d) ↦ below_new i (named name) j a c
          (some_number (sym f ∙ ap (λ t. find t.places name) b ∙ d))
      | inr (c, d) ↦
          let old = is.found above was at name j
          (sym d ∙ ap (λ t. find t.places name) (sym b) ∙ f) in
          below_old i (named name) j (subst (λ k. k < n) (sym a) above_within)
          (old.0, old.1 ∙ ap (λ k. named name ∷ path k) (sym a))
    ]
    found_then i s (newest a b) name j f =
        absurd (none_some (sym (adds.none_found name) ∙ ap (λ t. find t.places name) (sym b) ∙ f))

    elements_then : (i : ℕ) (s : Slot A) → Which i s → (k j : ℕ)
        → slice_get s.elements.items k ≡ Some j → Below i (placed k) j
    elements_then i s (older a g) k j f =
        below_old i (placed k) j (slice_get_within slots i s g) (is.elements i s g k j f)
    elements_then i s (upper a b) k j f = elim (adds.gets k) [
      | inl (c, d) ↦ below_new i (placed k) j a c
          (some_number (sym f ∙ ap (λ t. slice_get t.elements.items k) b ∙ d))
      | inr (c, d) ↦
          let old = is.elements above was at k j
          (sym d ∙ ap (λ t. slice_get t.elements.items k) (sym b) ∙ f) in
          below_old i (placed k) j (subst (λ m. m < n) (sym a) above_within)
          (old.0, old.1 ∙ ap (λ m. placed k ∷ path m) (sym a))
    ]
    elements_then i s (newest a b) k j f =
        absurd (none_some (ap (λ xs. slice_get xs k) (sym adds.no_elements)
        ∙ ap (λ t. slice_get t.elements.items k) (sym b) ∙ f))

    -- there is nothing below an older place where there was none
    none_old : (i : ℕ) (s : Slot A) (f : Step) → slice_get slots i ≡ Some s
        → tree (f ∷ path i) ≡ nothing → (f ∷ path i ≡ q → ⊥) → then_tree (f ∷ paths i) ≡ nothing
    none_old i s f g h a =
        ap (λ p. then_tree (f ∷ p)) (old_path i (slice_get_within slots i s g))
        ∙ still_none (f ∷ path i) h a

    none_new : (i : ℕ) (f : Step) → i ≡ n → then_tree (f ∷ paths i) ≡ nothing
    none_new i f a =
        ap (λ p. then_tree (f ∷ p)) (more_here n q path i a)
        ∙ still_none (f ∷ q) (is.below q f none) (longer f q)

    missing_then : (i : ℕ) (s : Slot A) → Which i s → (name : List ℕ)
        → find s.places name ≡ None → then_tree (named name ∷ paths i) ≡ nothing
    missing_then i s (older a g) name f =
        none_old i s (named name) g (is.missing i s g name f)
        (λ h. a (is.apart i above (slice_get_within slots i s g) above_within (others_same h)))
    missing_then i s (upper a b) name f = elim (adds.finds name) [
      | inl (c, d) ↦ absurd (none_some (sym f ∙ ap (λ t. find t.places name) b ∙ d))
      | inr (c, d) ↦
          ap (λ k. then_tree (named name ∷ paths k)) a
          ∙ none_old above was (named name) at
          (is.missing above was at name (sym d ∙ ap (λ t. find t.places name) (sym b) ∙ f))
          (λ h. c (first_same h))
    ]
    missing_then i s (newest a b) name f = none_new i (named name) a

    beyond_then : (i : ℕ) (s : Slot A) → Which i s → (k : ℕ) → length s.elements.items ≤ k
        → then_tree (placed k ∷ paths i) ≡ nothing
    beyond_then i s (older a g) k f =
        none_old i s (placed k) g (is.beyond i s g k f)
        (λ h. a (is.apart i above (slice_get_within slots i s g) above_within (others_same h)))
    beyond_then i s (upper a b) k f =
        let (c, d) = adds.beyond k (subst (λ t. length t.elements.items ≤ k) b f) in
        ap (λ m. then_tree (placed k ∷ paths m)) a
        ∙ none_old above was (placed k) at (is.beyond above was at k d) (λ h. c (first_same h))
    beyond_then i s (newest a b) k f = none_new i (placed k) a

    below_then : (p : Path) (f : Step) → then_tree p ≡ nothing → then_tree (f ∷ p) ≡ nothing
    below_then p f g =
        let a : p ≡ q → ⊥ = λ h. some_node fresh.kind (length fresh.elements.items)
        (sym (put_here first q (node_at fresh) p h) ∙ g) in
        let b : p ≡ path above → ⊥ = λ h. some_node now.kind (length now.elements.items)
        (sym (put_here tree (path above) node p h)
        ∙ sym (put_apart first q (node_at fresh) p a) ∙ g) in
        still_none (f ∷ p) (is.below p f (sym (apart_tree p a b) ∙ g)) (λ h. b (others_same h))

    depth_then : (i : ℕ) (s : Slot A) → Which i s → (s.depth ≡ length (paths i)) × (s.depth ≤ i)
    depth_then i s (older a g) =
        let (e, most) = is.depth i s g in (
          e ∙ ap (λ p. length p) (sym (old_path i (slice_get_within slots i s g))),
          most,
        )
    depth_then i s (upper a b) =
        let (e, most) = is.depth above was at in
        let same : s.depth ≡ was.depth = ap (λ t. t.depth) b ∙ adds.depth in
        let here : length (paths i) ≡ length (path above) =
        ap (λ k. length (paths k)) a ∙ ap (λ p. length p) (old_path above above_within) in
        (omega (arith, e, same, here), omega (arith, most, same, a))
    depth_then i s (newest a b) =
        let (e, most) = is.depth above was at in
        let same : s.depth ≡ was.depth + 1 = ap (λ t. t.depth) b ∙ adds.depth_below in
        let here : length (paths i) ≡ length q = ap (λ p. length p) (more_here n q path i a) in
        (omega (arith, e, same, here), omega (arith, most, same, a, above_within))

    called_fresh : (f : Step) → fresh.name.now ≡ last_name (f ∷ [])
        → fresh.name.now ≡ last_name (f ∷ path above)
    called_fresh (named name) a = a
    called_fresh (placed k) a = a

    called_then : (i : ℕ) (s : Slot A) → Which i s → s.name.now ≡ last_name (paths i)
    called_then i s (older a g) =
        is.called i s g
        ∙ ap (λ p. last_name p) (sym (old_path i (slice_get_within slots i s g)))
    called_then i s (upper a b) =
        ap (λ t. t.name.now) b ∙ ap (λ n. n.now) adds.name ∙ is.called above was at
        ∙ ap (λ p. last_name p) (sym (old_path above above_within))
        ∙ ap (λ k. last_name (paths k)) (sym a)
    called_then i s (newest a b) =
        ap (λ t. t.name.now) b ∙ called_fresh e adds.name_below
        ∙ ap (λ p. last_name p) (sym (more_here n q path i a))

    lists_then : (i : ℕ) (s : Slot A) → Which i s → Lists s
    lists_then i s (older a g) = is.lists i s g
    lists_then i s (upper a b) = subst (λ t. Lists t) (sym b) adds.lists
    lists_then i s (newest a b) = subst (λ t. Lists t) (sym b) adds.lists_below

    contains_then : (i : ℕ) (s t : Slot A) → slice_get slots i ≡ Some s → Which i t
        → Contains t.kind → Contains s.kind
    contains_then i s t g (older a h) has =
        subst (λ x. Contains x.kind) (get_once (slice_get slots i) h g) has
    contains_then i s t g (upper a b) has =
        let same : was ≡ s = get_once (slice_get slots above) at (ap (λ k. slice_get slots k)
        (sym a) ∙ g) in
        subst (λ k. Contains k) (ap (λ x. x.kind) b ∙ adds.kind ∙ ap (λ x. x.kind) same) has
    contains_then i s t g (newest a b) has =
        absurd (omega (arith, a, slice_get_within slots i s g))

    -- the places hold the tree with both nodes
    pub added : Goes slots path (then_tree, q) n grown
    added = record {
      paths = paths;
      holds = record {
        top = old_path 0 (omega (arith, above_within)) ∙ is.top;
        there = λ i s g. there_then i s (which i s g);
        apart = λ i j v w f. apart_then i j (inside i v) (inside j w) f;
        found = λ i s g. found_then i s (which i s g);
        missing = λ i s g. missing_then i s (which i s g);
        elements = λ i s g. elements_then i s (which i s g);
        beyond = λ i s g. beyond_then i s (which i s g);
        below = below_then;
        deeper = λ i j e v w f. deeper_then i j e (inside i v) (inside j w) f;
        rising = λ i j a b p v w f g. rising_then i j a b p (inside i v) (inside j w) f g;
        depth = λ i s g. depth_then i s (which i s g);
        called = λ i s g. called_then i s (which i s g);
        lists = λ i s g. lists_then i s (which i s g);
      };
      within = omega (arith, count);
      at = more_here n q path n refl;
      kept = old_path;
      grown = omega (arith, count);
      contains = λ i s t g h. contains_then i s t g (which i t h);
    }
