-- The results of `get_path`, `len`, `at` and `name` for the tree that slots hold.
use Rattle.std.specs.Prelude.{◌≡◌, ◌↔◌, ℕ, zero, suc, ◌+◌, ◌<◌, ◌≤◌, List, [], ◌∷◌, length, map}
use Rattle.std.specs.Prelude.{drop, get_or, option_map, slice_get, unwrap_or, Option, Some, None}
use Rattle.std.specs.Borrow.{Bor}
use Rattle.std.proofs.Common.{refl, sym, ap, subst, inl, inr, ◌∙◌, arith}
use Rattle.std.proofs.lemmas.Bool.{cases_lt}
use Rattle.std.proofs.lemmas.List.{drop_all, drop_more, length-map}
use Rattle.std.proofs.lemmas.Option.{slice_get-get_or, slice_get-map}
use Rattle.format_toml_tree.specs.Added.{some_there}
use Rattle.format_toml_tree.specs.Holds.{Holds, find, node_at}
use Rattle.format_toml_tree.specs.Nodes.{Finds, IsAt}
use Rattle.format_toml_tree.specs.Paths.{Path, last_name, named, placed}
use Rattle.format_toml_tree.specs.Places.{some_node}
use Rattle.format_toml_tree.specs.Rules.{IsTable, nothing}
use Rattle.format_toml_tree.specs.Runs.{Tree}
use Rattle.format_toml_tree.specs.declared.node.Node.{Node}
use Rattle.format_toml_tree.specs.declared.tree.Slot.{Slot}

-- The path of the entry along names: the first is in the table at `p`, each other one in the table
-- before it.
abbrev pub along : List (Bor (List ℕ)) → Path → Path
along [] p = p
along (name ∷ names) p = along names (named name.now ∷ p)

none_some : {X : Type 0} {x : X} → None ≡ Some x → ⊥
none_some e = cc

same_some : {X : Type 0} {x y : X} → Some x ≡ Some y → x ≡ y
same_some e = cc

pub got_some : (below : List ℕ) (k j : ℕ) (got : Option ℕ) → got ≡ Some j → k < length below
    → ((d : ℕ) → unwrap_or got d ≡ get_or below k d) → slice_get below k ≡ Some j
got_some below k j got e within reads =
    slice_get-get_or below k j within
    ∙ ap (λ n. Some n) (sym (reads j) ∙ ap (λ r. unwrap_or r j) e)

past_end : {X : Type 0} (xs : List X) (k : ℕ) → slice_get xs k ≡ None → length xs ≤ k
past_end [] k e = omega arith
past_end (x ∷ xs) zero e = absurd (cc)
past_end (x ∷ xs) (suc k) e = let less = past_end xs k e in omega (arith, less)

module _ {A : Type 0} where
  -- The node along the names is found, or there is nothing there.
  abbrev pub FindsAlong : Node A → List (Bor (List ℕ)) → Option (Node A) → Type 0
  FindsAlong node names None =
      (tree : Tree A) (path : ℕ → Path) (p : Path) → IsAt node tree path p
      → tree (along names p) ≡ nothing
  FindsAlong node names (Some found) =
      (tree : Tree A) (path : ℕ → Path) (p : Path) → IsAt node tree path p
      → IsAt found tree path (along names p) × (tree (along names p) ≡ nothing → ⊥)

  -- The name is that of the last step to the node.
  abbrev pub IsNameOf : Node A → List ℕ → Type 0
  IsNameOf node name = (tree : Tree A) (path : ℕ → Path) (p : Path) → IsAt node tree path p
      → name ≡ last_name p

  -- the name of a slot
  abbrev pub name_of : Option (Slot A) → List ℕ
  name_of None = []
  name_of (Some s) = s.name.now

  abbrev pub names_of : List (Slot A) → Option (Slot A) → List (List ℕ)
  names_of slots None = []
  names_of slots (Some s) = map (λ j. name_of (slice_get slots j)) s.entries.items

  -- The names of the entries of a node, in the order of its slot.
  abbrev pub entry_names : Node A → List (List ℕ)
  entry_names node =
      names_of node.tree.now.slots.items (slice_get node.tree.now.slots.items node.place)

  -- The names are those of all entries of the table at a path, each once.
  pub record AreEntries (tree : Tree A) (p : Path) (names : List (List ℕ)) : Type 0 where
    pub there : (k : ℕ) (name : List ℕ) → slice_get names k ≡ Some name
        → tree (named name ∷ p) ≡ nothing → ⊥
    pub all : (name : List ℕ) → (tree (named name ∷ p) ≡ nothing → ⊥)
        → (k : ℕ) × (slice_get names k ≡ Some name)
    pub once : (j k : ℕ) (name : List ℕ) → slice_get names j ≡ Some name
        → slice_get names k ≡ Some name → j ≡ k

  -- A table has `n` entries. Anything else has elements at the indices below `n`, and no others.
  abbrev pub IsLength : Node A → ℕ → Type 0
  IsLength node n = (tree : Tree A) (path : ℕ → Path) (p : Path) → IsAt node tree path p
      → (IsTable (tree p) → AreEntries tree p (entry_names node)
      × (n ≡ length (entry_names node)))
      × ((IsTable (tree p) → ⊥) → (k : ℕ) → (tree (placed k ∷ p) ≡ nothing) ↔ (n ≤ k))

  -- The entry of a table with this index, or the element of anything else, if there is one.
  abbrev pub FindsAt : Node A → ℕ → Option (Node A) → Type 0
  FindsAt node k None = (tree : Tree A) (path : ℕ → Path) (p : Path) → IsAt node tree path p
      → (IsTable (tree p) → slice_get (entry_names node) k ≡ None)
      × ((IsTable (tree p) → ⊥) → tree (placed k ∷ p) ≡ nothing)
  FindsAt node k (Some found) =
      (tree : Tree A) (path : ℕ → Path) (p : Path) → IsAt node tree path p
      → (IsTable (tree p) → (name : List ℕ) × (slice_get (entry_names node) k ≡ Some name)
      × IsAt found tree path (named name ∷ p))
      × ((IsTable (tree p) → ⊥) → IsAt found tree path (placed k ∷ p))

  -- the slots below a node: the entries of a table, the elements of anything else
  abbrev pub AreBelow : Node A → List ℕ → Type 0
  AreBelow node below = (s : Slot A) → slice_get node.tree.now.slots.items node.place ≡ Some s
      → (IsTable (node_at s) → below ≡ s.entries.items)
      × ((IsTable (node_at s) → ⊥) → below ≡ s.elements.items)

  -- ---- along names

  nothing_along : {slots : List (Slot A)} {tree : Tree A} {path : ℕ → Path}
      → Holds slots tree path → (names : List (Bor (List ℕ))) (p : Path) → tree p ≡ nothing
      → tree (along names p) ≡ nothing
  nothing_along holds [] p none = none
  nothing_along holds (name ∷ names) p none =
      nothing_along holds names (named name.now ∷ p) (holds.below p (named name.now) none)

  something : {tree : Tree A} {path : ℕ → Path} {p : Path} (node : Node A)
      → IsAt node tree path p → tree p ≡ nothing → ⊥
  something {tree = tree} node is none =
      let (s, g) = some_there node.tree.now.slots.items node.place is.within in
      some_node s.kind (length s.elements.items)
      (sym (is.holds.there node.place s g) ∙ ap tree is.at ∙ none)

  module _ (names : List (Bor (List ℕ))) (i : ℕ) (node : Node A) where
    pub along_all : length names ≤ i → FindsAlong node (drop i names) (Some node)
    along_all past = subst (λ l. FindsAlong node l (Some node)) (sym (drop_all i names past))
        (λ tree path p is. (is, something node is))

    module _ (d : Bor (List ℕ)) (within : i < length names) where
      abbrev name : Bor (List ℕ)
      name = get_or names i d

      front : name ∷ drop (i + 1) names ≡ drop i names
      front = sym (drop_more names i d within)

      pub along_none : Finds node name.now None → FindsAlong node (drop i names) None
      along_none none = subst (λ l. FindsAlong node l None) front
          (λ tree path p is. nothing_along is.holds (drop (i + 1) names) (named name.now ∷ p)
          (none tree path p is))

      pub along_step : (next : Node A) (found : Option (Node A))
          → Finds node name.now (Some next) → FindsAlong next (drop (i + 1) names) found
          → FindsAlong node (drop i names) found
      along_step next None finds more = subst (λ l. FindsAlong node l None) front
          (λ tree path p is. more tree path (named name.now ∷ p) (finds tree path p is).0)
      along_step next (Some found) finds more =
          subst (λ l. FindsAlong node l (Some found)) front
          (λ tree path p is. more tree path (named name.now ∷ p) (finds tree path p is).0)

  module _ (node : Node A) where
    abbrev slots : List (Slot A)
    slots = node.tree.now.slots.items

    -- ---- entries and elements

    abbrev node_in : ℕ → Node A
    node_in j = record { tree = node.tree; place = j }

    module _ (s : Slot A) (g : slice_get slots node.place ≡ Some s) {tree : Tree A}
        {path : ℕ → Path} {p : Path} (is : IsAt node tree path p) where
      names_get : (k : ℕ) → slice_get (entry_names node) k
          ≡ option_map (λ j. name_of (slice_get slots j)) (slice_get s.entries.items k)
      names_get k = ap (λ r. slice_get (names_of slots r) k) g
          ∙ slice_get-map (λ j. name_of (slice_get slots j)) s.entries.items k

      entry_found : (name : List ℕ) (j : ℕ) → find s.places name ≡ Some j
          → IsAt (node_in j) tree path (named name ∷ p) × (name_of (slice_get slots j) ≡ name)
      entry_found name j f =
          let (within, at) = is.holds.found node.place s g name j f in
          let (t, h) = some_there slots j within in (
            record {
              holds = is.holds;
              within = within;
              at = at ∙ ap (λ r. named name ∷ r) is.at;
            },
            ap (λ r. name_of r) h ∙ is.holds.called j t h ∙ ap (λ r. last_name r) at,
          )

      -- the entry with an index
      entry_here : (k j : ℕ) → slice_get s.entries.items k ≡ Some j
          → (name : List ℕ) × (slice_get (entry_names node) k ≡ Some name)
          × IsAt (node_in j) tree path (named name ∷ p)
      entry_here k j f =
          let (name, found) = (is.holds.lists node.place s g).entry k j f in
          let (at, same) = entry_found name j found in (
            name,
            names_get k ∙ ap (λ r. option_map (λ j. name_of (slice_get slots j)) r) f
                ∙ ap (λ n. Some n) same,
            at,
          )

      -- the slot of a name
      pub entry_of : (k : ℕ) (name : List ℕ) → slice_get (entry_names node) k ≡ Some name
          → (j : ℕ) × (slice_get s.entries.items k ≡ Some j)
          × IsAt (node_in j) tree path (named name ∷ p)
      entry_of k name e = by (slice_get s.entries.items k) refl
        where
          by : (r : Option ℕ) → slice_get s.entries.items k ≡ r
              → (j : ℕ) × (slice_get s.entries.items k ≡ Some j)
              × IsAt (node_in j) tree path (named name ∷ p)
          by None f = absurd (none_some (sym (names_get k
              ∙ ap (λ r. option_map (λ j. name_of (slice_get slots j)) r) f) ∙ e))
          by (Some j) f =
              let (other, named_so, at) = entry_here k j f in (
                j,
                f,
                subst (λ n. IsAt (node_in j) tree path (named n ∷ p))
                    (same_some (sym named_so ∙ e)) at,
              )

      entry_order : (j k a b : ℕ) → slice_get s.entries.items j ≡ Some a
          → slice_get s.entries.items k ≡ Some b → a ≡ b → j < k → ⊥
      entry_order j k a b f h e less =
          let rises = (is.holds.lists node.place s g).in_order j k a b less f h in
          omega (arith, rises, e)

      entry_once : (j k : ℕ) (name : List ℕ) → slice_get (entry_names node) j ≡ Some name
          → slice_get (entry_names node) k ≡ Some name → j ≡ k
      entry_once j k name e f =
          let (a, at_j, here) = entry_of j name e in
          let (b, at_k, there) = entry_of k name f in
          let same = is.holds.apart a b here.within there.within (here.at ∙ sym there.at) in
          elim (cases_lt j k) [
            | inl less ↦ absurd (entry_order j k a b at_j at_k same less)
            | inr most ↦ elim (cases_lt k j) [
              | inl less ↦ absurd (entry_order k j b a at_k at_j (sym same) less)
              | inr least ↦ omega (arith, most, least)
            ]
          ]

      entry_listed : (name : List ℕ) → (tree (named name ∷ p) ≡ nothing → ⊥)
          → (k : ℕ) × (slice_get (entry_names node) k ≡ Some name)
      entry_listed name some = by (find s.places name) refl
        where
          by : (r : Option ℕ) → find s.places name ≡ r
              → (k : ℕ) × (slice_get (entry_names node) k ≡ Some name)
          by None f = absurd (some (ap (λ q. tree (named name ∷ q)) (sym is.at)
              ∙ is.holds.missing node.place s g name f))
          by (Some j) f =
              let (k, listed) = (is.holds.lists node.place s g).listed name j f in
              let (at, same) = entry_found name j f in (
                k,
                names_get k
                    ∙ ap (λ r. option_map (λ j. name_of (slice_get slots j)) r) listed
                    ∙ ap (λ n. Some n) same,
              )

      are_entries : AreEntries tree p (entry_names node)
      are_entries = record {
        there = λ k name e none.
            let (j, f, at) = entry_of k name e in
            something (node_in j) at none;
        all = entry_listed;
        once = entry_once;
      }

      count : length (entry_names node) ≡ length s.entries.items
      count = ap (λ r. length (names_of slots r)) g
          ∙ length-map s.entries.items (λ j. name_of (slice_get slots j))

      node_here : tree p ≡ node_at s
      node_here = ap tree (sym is.at) ∙ is.holds.there node.place s g

      element_here : (k j : ℕ) → slice_get s.elements.items k ≡ Some j
          → IsAt (node_in j) tree path (placed k ∷ p)
      element_here k j f =
          let (within, at) = is.holds.elements node.place s g k j f in record {
            holds = is.holds;
            within = within;
            at = at ∙ ap (λ r. placed k ∷ r) is.at;
          }

      beyond_here : (k : ℕ) → length s.elements.items ≤ k → tree (placed k ∷ p) ≡ nothing
      beyond_here k past = ap (λ q. tree (placed k ∷ q)) (sym is.at)
          ∙ is.holds.beyond node.place s g k past

      nothing_beyond : (k : ℕ) → tree (placed k ∷ p) ≡ nothing → length s.elements.items ≤ k
      nothing_beyond k none = elim (cases_lt k (length s.elements.items)) [
        | inl less ↦
            let (j, f) = some_there s.elements.items k less in
            absurd (something (node_in j) (element_here k j f) none)
        | inr past ↦ past
      ]

    module _ (below : List ℕ) (are : AreBelow node below) where
      slotted : {tree : Tree A} {path : ℕ → Path} {p : Path} → IsAt node tree path p
          → (s : Slot A) × (slice_get slots node.place ≡ Some s)
          × (IsTable (tree p) → below ≡ s.entries.items)
          × ((IsTable (tree p) → ⊥) → below ≡ s.elements.items)
      slotted {tree} is =
          let (s, g) = some_there slots node.place is.within in
          let (entries, elements) = are s g in (
            s,
            g,
            λ table. entries (subst (λ n. IsTable n) (node_here s g is) table),
            λ other. elements (λ table. other (subst (λ n. IsTable n) (sym (node_here s g is))
                table)),
          )

      pub length_is : IsLength node (length below)
      length_is tree path p is =
          let (s, g, entries, elements) = slotted is in (
            λ table. (
              are_entries s g is,
              ap (λ l. length l) (entries table) ∙ sym (count s g is),
            ),
            λ other k. (
              λ none. subst (λ l. length l ≤ k) (sym (elements other))
                  (nothing_beyond s g is k none),
              λ past. beyond_here s g is k (subst (λ l. length l ≤ k) (elements other) past),
            ),
          )

      pub at_none : (k : ℕ) → slice_get below k ≡ None → FindsAt node k None
      at_none k none tree path p is =
          let (s, g, entries, elements) = slotted is in (
            λ table. names_get s g is k
                ∙ ap (λ r. option_map (λ j. name_of (slice_get slots j)) r)
                (ap (λ l. slice_get l k) (sym (entries table)) ∙ none),
            λ other. beyond_here s g is k (past_end s.elements.items k
                (ap (λ l. slice_get l k) (sym (elements other)) ∙ none)),
          )

      pub at_some : (k j : ℕ) → slice_get below k ≡ Some j → FindsAt node k (Some (node_in j))
      at_some k j some tree path p is =
          let (s, g, entries, elements) = slotted is in (
            λ table. entry_here s g is k j
                (ap (λ l. slice_get l k) (sym (entries table)) ∙ some),
            λ other. element_here s g is k j
                (ap (λ l. slice_get l k) (sym (elements other)) ∙ some),
          )
