-- The effects of calls on slots: a slot is unchanged, one is set, an entry or an element is added.
use Rattle.std.specs.Prelude.{◌≡◌, ◌⊎◌, ℕ, zero, suc, ◌+◌, ◌<◌, ◌≤◌, Bool, true, false, cond, List}
use Rattle.std.specs.Prelude.{[], ◌∷◌, ◌++◌, length, set, get_or, Option, Some, None, slice_get}
use Rattle.std.specs.Borrow.{Bor}
use Rattle.std.specs.BTreeMap.{UpdatesBy, is_at}
use Rattle.std.specs.Cmp.Lexicographic.{slice_cmp}
use Rattle.std.specs.Map.{lookup}
use Rattle.std.specs.Ordering.{nat_cmp}
use Rattle.std.specs.Str.{bytes_eq}
use Rattle.std.proofs.Common.{refl, sym, ap, subst, inl, inr, min, ◌∙◌, arith}
use Rattle.std.proofs.lemmas.Bool.{cases_eq}
use Rattle.std.proofs.lemmas.List.{length-append}
use Rattle.std.proofs.lemmas.Map.Text.{btree_map_updates_str}
use Rattle.std.proofs.lemmas.Option.{slice_get_read, slice_get_within}
use Rattle.std.proofs.lemmas.Slice.Eq.{bytes_eq-Decides}
use Rattle.format_toml_tree.specs.Paths.{Path, named, no_place, placed, put, same_name, put_same}
use Rattle.format_toml_tree.specs.Paths.{same_place}
use Rattle.format_toml_tree.specs.Rules.{nothing}
use Rattle.format_toml_tree.specs.Runs.{State, Tree}
use Rattle.format_toml_tree.specs.Holds.{AddsElement, AddsEntry, Contains, Goes, Holds, IsFresh}
use Rattle.format_toml_tree.specs.Holds.{Pushes, find, node_at, node_of}
use Rattle.format_toml_tree.specs.Places.{get_push, some_node}
use Rattle.format_toml_tree.specs.Entries.{lists_more, lists_none, lists_same}
use Rattle.format_toml_tree.specs.Added.{added, get_once, some_there}
use Rattle.format_toml_tree.specs.declared.tree.Kind.{Kind}
use Rattle.format_toml_tree.specs.declared.tree.Slot.{Slot}

true_false : true ≡ false → ⊥
true_false e = cc

-- ---- lists that an element is added to

get_last : {X : Type 0} (xs : List X) (y : X) → slice_get (xs ++ y ∷ []) (length xs) ≡ Some y
get_last [] y = refl
get_last (x ∷ xs) y = get_last xs y

get_other : {X : Type 0} (xs : List X) (y : X) (i : ℕ) → (i ≡ length xs → ⊥)
    → slice_get (xs ++ y ∷ []) i ≡ slice_get xs i
get_other [] y zero apart = absurd (apart refl)
get_other [] y (suc i) apart = refl
get_other (x ∷ xs) y zero apart = refl
get_other (x ∷ xs) y (suc i) apart = get_other xs y i (λ e. apart (ap (λ n. suc n) e))

module _ {A : Type 0} where
  -- ---- in turn

  pub goes_on : {old mid new : List (Slot A)} {path : ℕ → Path} {s t : State A} {i j : ℕ}
      (first : Goes old path s i mid) → Goes mid first.paths t j new → Goes old path t j new
  goes_on {old = old} {mid = mid} first next = record {
    paths = next.paths;
    holds = next.holds;
    within = next.within;
    at = next.at;
    kept = λ k w. next.kept k (omega (arith, w, first.grown)) ∙ first.kept k w;
    grown = omega (arith, first.grown, next.grown);
    contains = λ k r u g h has.
        let within : k < length old = slice_get_within old k r g in
        let (m, f) = some_there mid k (omega (arith, within, first.grown)) in
        first.contains k r m g f (next.contains k m u f h has);
  }

  pub stays : {slots : List (Slot A)} {tree : Tree A} {path : ℕ → Path} (j : ℕ)
      → Holds slots tree path → j < length slots → Goes slots path (tree, path j) j slots
  stays {slots = slots} {path = path} j holds within = record {
    paths = path;
    holds = holds;
    within = within;
    at = refl;
    kept = λ i w. refl;
    grown = omega arith;
    contains = λ i s t g h has. subst (λ x. Contains x.kind) (get_once (slice_get slots i) h g) has;
  }

  pub fresh_node : {depth : ℕ} {label : List ℕ} {kind : Kind A} {s : Slot A}
      → IsFresh depth label kind s → node_at s ≡ node_of kind 0
  fresh_node {kind = kind} {s = s} is =
      ap (λ k. node_of k (length s.elements.items)) is.kind_is
      ∙ ap (λ (xs : List ℕ). node_of kind (length xs)) is.no_elements

  pub fresh_none : {depth : ℕ} {label : List ℕ} {kind : Kind A} {s : Slot A}
      → IsFresh depth label kind s → (name : List ℕ)
      → find s.places name ≡ None
  fresh_none is name =
      ap (λ es. lookup (is_at (λ (k : Bor (List ℕ)). slice_cmp nat_cmp name k.now)) es) is.no_places

  -- where there is nothing at a name, the map has nothing
  not_found : {slots : List (Slot A)} {tree : Tree A} {path : ℕ → Path} → Holds slots tree path
      → (i : ℕ) (s : Slot A) → slice_get slots i ≡ Some s → (name : List ℕ)
      → tree (named name ∷ path i) ≡ nothing → (r : Option ℕ) → find s.places name ≡ r
      → find s.places name ≡ None
  not_found holds i s g name none None f = f
  not_found {slots = slots} {tree = tree} holds i s g name none (Some j) f =
      let (w, at) = holds.found i s g name j f in
      let (t, h) = some_there slots j w in
      absurd (some_node t.kind (length t.elements.items)
      (sym (holds.there j t h) ∙ ap tree at ∙ none))

  -- the depth below a slot, where depths are less than the number of slots
  pub depth_added : (slots : List (Slot A)) (above depth : ℕ) (was : Slot A)
      → slice_get slots above ≡ Some was → depth ≡ min (was.depth + 1) 18446744073709551615
      → length slots < 18446744073709551616 → (s : Slot A) → slice_get slots above ≡ Some s
      → s.depth < length slots → depth ≡ s.depth + 1
  depth_added slots above depth was at sum small s is less =
      let same : s.depth ≡ was.depth =
      ap (λ t. t.depth) (get_once (slice_get slots above) is at) in
      omega (arith, same, sum, small, less)

  module _ (old mid : List (Slot A)) (above depth place : ℕ) (label : List ℕ) (kind : Kind A)
      (was now : Slot A) (pushed : Pushes old depth label kind place mid)
      (within : above < length old)
      (deep : (s : Slot A) → slice_get old above ≡ Some s → s.depth < length old
      → depth ≡ s.depth + 1)
      (read : was ≡ get_or mid above was) (kinds : now.kind ≡ was.kind)
      (depths : now.depth ≡ was.depth) (labels : now.name ≡ was.name) where
    -- the place above was there before
    abbrev is_old : (fresh : Slot A) → mid ≡ old ++ fresh ∷ [] → slice_get old above ≡ Some was
    is_old fresh e = elim (get_push old fresh was above
        (subst (λ m. slice_get m above ≡ Some was) e
        (slice_get_read mid _ above was refl (more fresh e) read))) [
          | inl h ↦ h
          | inr (a, b) ↦ absurd (omega (arith, a, within))
        ]
      where
        more : (fresh : Slot A) → mid ≡ old ++ fresh ∷ [] → above < length mid
        more fresh e =
            let count : length mid ≡ length old + 1 =
            ap (λ m. length m) e ∙ length-append old (fresh ∷ []) in
            omega (arith, within, count)

    depth_next : {tree : Tree A} {path : ℕ → Path} (s fresh : Slot A) → Holds old tree path
        → slice_get old above ≡ Some s → IsFresh depth label kind fresh → fresh.depth ≡ s.depth + 1
    depth_next s fresh holds at is =
        is.depth_is ∙ deep s at (omega (arith, (holds.depth above s at).1, within))

    -- an entry is added below the place above
    pub entry_added : (name : Bor (List ℕ))
        → UpdatesBy (λ x y. slice_cmp nat_cmp x.now y.now) (λ k. slice_cmp nat_cmp name.now k.now)
        was.places now.places (Some place)
        → now.elements ≡ was.elements
        → now.entries.items ≡ was.entries.items ++ place ∷ [] → label ≡ name.now
        → AddsEntry old above name.now kind place (set mid above now)
    entry_added name updates elements entries here tree path holds none =
        let (fresh, is, e, j) = pushed in
        let at = is_old fresh e in
        let q : Path = named name.now ∷ path above in
        let empty : find was.places name.now ≡ None =
        not_found holds above was at name.now none (find was.places name.now) refl in
        let updated : UpdatesBy (λ x y. slice_cmp nat_cmp x.now y.now)
        (λ k. slice_cmp nat_cmp name.now k.now) was.places now.places (Some (length old)) =
        subst (λ n. UpdatesBy (λ x y. slice_cmp nat_cmp x.now y.now)
        (λ k. slice_cmp nat_cmp name.now k.now) was.places now.places (Some n)) j updates in
        let same : node_at now ≡ tree (path above) =
        ap (λ k. node_of k (length now.elements.items)) kinds
        ∙ ap (λ v. node_of was.kind (length v.items)) elements
        ∙ sym (holds.there above was at) in
        let goes = added holds above (named name.now) was now fresh at none (record {
          none_found = fresh_none is;
          no_elements = is.no_elements;
          finds = λ other. finds_by other (length old) (bytes_eq name.now other) refl updated;
          gets = λ k. inr
              (λ f. no_place name.now k (sym f), ap (λ v. slice_get v.items k) elements);
          beyond = λ k f. (
            λ g. no_place name.now k (sym g),
            subst (λ v. length v.items ≤ k) elements f,
          );
          last = λ k f. no_place name.now k (sym f);
          kind = kinds;
          depth = depths;
          depth_below = depth_next was fresh holds at is;
          name = labels;
          name_below = is.name_is ∙ here;
          lists = lists_more now (holds.lists above was at) name.now (length old) empty
              (λ n k f. (holds.found above was at n k f).0)
              (λ n. elim (finds_by n (length old) (bytes_eq name.now n) refl updated) [
                | inl (a, b) ↦ inl (same_name a, b)
                | inr (a, b) ↦ inr (λ f. a (ap (λ x. named x) f), b)
              ]) (entries ∙ ap (λ n. was.entries.items ++ n ∷ []) j);
          lists_below = lists_none is (fresh_none is);
        }) in
        rw (e, j) (subst (λ t. Goes old path (t, q) (length old)
        (set (old ++ fresh ∷ []) above now))
        (ap (λ t. put t q (node_at fresh)) (put_same tree (path above) (node_at now) (sym same))
        ∙ ap (λ n. put tree q n) (fresh_node is)) goes)
      where
        finds_by : (other : List ℕ) (n : ℕ) (b : Bool) → bytes_eq name.now other ≡ b
            → UpdatesBy (λ x y. slice_cmp nat_cmp x.now y.now)
            (λ k. slice_cmp nat_cmp name.now k.now) was.places now.places (Some n)
            → ((named other ≡ named name.now) × (find now.places other ≡ Some n))
            ⊎ ((named other ≡ named name.now → ⊥)
            × (find now.places other ≡ find was.places other))
        finds_by other n true e u = inl (
          ap (λ x. named x) (sym ((bytes_eq-Decides name.now other).0 e)),
          btree_map_updates_str name.now was.places now.places (Some n) u other
              ∙ ap (λ b. cond b (Some n) (find was.places other)) e,
        )
        finds_by other n false e u = inr (
          λ f. absurd (true_false (sym ((bytes_eq-Decides name.now other).1 (sym (same_name f)))
              ∙ e)),
          btree_map_updates_str name.now was.places now.places (Some n) u other
              ∙ ap (λ b. cond b (Some n) (find was.places other)) e,
        )

    -- an element is added below the place above
    pub element_added : now.places ≡ was.places
        → now.elements.items ≡ was.elements.items ++ place ∷ []
        → now.entries ≡ was.entries → label ≡ []
        → AddsElement old above kind place (set mid above now)
    element_added places elements entries none tree path before holds at =
        let (fresh, is, e, j) = pushed in
        let was_at = is_old fresh e in
        let same : before ≡ was = cc in
        let xs : List ℕ = before.elements.items in
        let q : Path = placed (length xs) ∷ path above in
        let items : now.elements.items ≡ xs ++ length old ∷ [] =
        elements ∙ ap (λ i. was.elements.items ++ i ∷ []) j
        ∙ ap (λ s. s.elements.items ++ length old ∷ []) (sym same) in
        let count : length now.elements.items ≡ length xs + 1 =
        ap (λ l. length l) items ∙ length-append xs (length old ∷ []) in
        let node : node_at now ≡ node_of before.kind (length xs + 1) =
        ap (λ k. node_of k (length now.elements.items))
        (kinds ∙ ap (λ s. s.kind) (sym same))
        ∙ ap (λ n. node_of before.kind n) count in
        let goes = added holds above (placed (length xs)) before now fresh at
        (holds.beyond above before at (length xs) (omega arith)) (record {
          none_found = fresh_none is;
          no_elements = is.no_elements;
          finds = λ other. inr (
            λ f. no_place other (length xs) f,
            ap (λ m. find m other) (places ∙ ap (λ s. s.places) (sym same)),
          );
          gets = λ k. elim (cases_eq k (length xs)) [
            | inl a ↦ inl (
              ap (λ n. placed n) a,
              ap (λ l. slice_get l k) items ∙ ap (λ n. slice_get (xs ++ length old ∷ []) n) a
                  ∙ get_last xs (length old),
            )
            | inr a ↦ inr (
              λ f. a (same_place f),
              ap (λ l. slice_get l k) items ∙ get_other xs (length old) k a,
            )
          ];
          beyond = λ k f. (
            λ g. let h = same_place g in omega (arith, f, count, h),
            omega (arith, f, count),
          );
          last = λ k f. omega (arith, same_place f);
          kind = kinds ∙ ap (λ s. s.kind) (sym same);
          depth = depths ∙ ap (λ s. s.depth) (sym same);
          depth_below = depth_next before fresh holds at is;
          name = labels ∙ ap (λ s. s.name) (sym same);
          name_below = is.name_is ∙ none;
          lists = lists_same now (holds.lists above before at)
              (places ∙ ap (λ s. s.places) (sym same)) (entries ∙ ap (λ s. s.entries) (sym same));
          lists_below = lists_none is (fresh_none is);
        }) in
        rw (e, j) (subst (λ t. Goes old path (t, q) (length old)
        (set (old ++ fresh ∷ []) above now))
        (ap (λ n. put (put tree (path above) n) q (node_at fresh)) node
        ∙ ap (λ n. put (put tree (path above) (node_of before.kind (length xs + 1))) q n)
        (fresh_node is)) goes)
