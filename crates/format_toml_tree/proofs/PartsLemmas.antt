-- The parts of a value fill the tree below its slot, in sequence.
use Rattle.std.specs.Prelude.{[], ◌≡◌, ℕ, ◌+◌, ◌<◌, ◌≤◌, List, ◌∷◌, length, drop, get_or, Some}
use Rattle.std.specs.Prelude.{Result, Ok, Err, slice_get}
use Rattle.std.specs.Borrow.{Bor}
use Rattle.std.proofs.Common.{sym, ap, subst, ◌∙◌, arith}
use Rattle.format_toml_tree.specs.Paths.{Path, placed, put, put_same}
use Rattle.format_toml_tree.specs.Rules.{nothing, valued, dots, gives}
use Rattle.format_toml_tree.specs.Runs.{Fills, FillsEntry, FillsNames, FillsPlaces}
use Rattle.format_toml_tree.specs.Runs.{IsNext, State, Tree}
use Rattle.format_toml_tree.specs.Runs as runs
use Rattle.format_toml_tree.specs.Holds.{AddsElement, FillsBy, Goes, Holds, IsValueAt, Keeps}
use Rattle.format_toml_tree.specs.Holds.{SaysKey, node_of}
use Rattle.format_toml_tree.specs.Added.{some_there}
use Rattle.format_toml_tree.specs.Calls.{goes_on}
use Rattle.format_toml_tree.specs.Keys.{drop_here, drop_past}
use Rattle.format_toml_tree.specs.Places.{some_node}
use Rattle.format_toml_tree.specs.declared.roles.Reason.{Reason}
use Rattle.format_toml_tree.specs.declared.tree.Kind.{Kind}
use Rattle.format_toml_tree.specs.declared.tree.Kind.TheVariants as kinds
use Rattle.format_toml_tree.specs.declared.tree.Slot.{Slot}
use Rattle.format_toml_tree.specs.declared.tree.Stop.{Stop}
use Rattle.format_toml_tree.specs.declared.tree.Stop.TheVariants.{OutOfMemory, Invalid}
use Rattle.format_toml_tree.specs.declared.value.Key.{Key}
use Rattle.format_toml_tree.specs.declared.value.Value.{Value}
use Rattle.format_toml_tree.proofs.FilledLemmas.{keeps_put, keeps_then, key_keeps, no_value}

module _ {A : Type 0} where
  -- a place that was there before is there still
  pub goes_back : {old new : List (Slot A)} {path : ℕ → Path} {s : State A} {j : ℕ}
      → Goes old path s j new → (i : ℕ) → i < length old → Goes old path (s.0, path i) i new
  goes_back goes i w = record {
    paths = goes.paths;
    holds = goes.holds;
    within = omega (arith, w, goes.grown);
    at = goes.kept i w;
    kept = goes.kept;
    grown = goes.grown;
    contains = goes.contains;
  }

  -- a value is one with any number of parts
  same_value : (k : Kind A) (n m : ℕ) (v : Value A) → node_of k n ≡ valued v
      → node_of k m ≡ valued v
  same_value (kinds.Value w) n m v e = e
  same_value kinds.Super n m v e = e
  same_value kinds.Header n m v e = e
  same_value kinds.Dotted n m v e = e
  same_value kinds.Tables n m v e = absurd (cc)

  -- The parts from the `k`-th on remain to fill the tree, by a rule on the remaining parts.
  abbrev pub LeftToFill : {X : Type 0} → (Tree A → Path → List X → Result (Tree A) Reason → Type 0)
      → List (Slot A) → ℕ → List X → ℕ → List (Slot A) → Type 0
  LeftToFill By old place parts k new =
      (tree : Tree A) (path : ℕ → Path) → Holds old tree path → (next : Tree A)
      × ((r : Result (Tree A) Reason) → By next (path place) (drop k parts) r
      → By tree (path place) parts r)
      × Keeps tree next × Goes old path (next, path place) place new

  -- ---- a value

  pub value_at : (slots : List (Slot A)) (place : ℕ) (s : Slot A) (value : Bor (Value A))
      → slice_get slots place ≡ Some s → s.kind ≡ kinds.Value value → IsValueAt slots place
  value_at slots place s value at is t h = let same : s ≡ t = cc in (value, rw (← same) is)

  module _ (old mid : List (Slot A)) (place : ℕ) (inside : place < length old) where
    -- ---- elements of an array

    module _ (vs : List (Value A)) (k : ℕ) (left : LeftToFill FillsPlaces old place vs k mid)
        (has : IsValueAt old place) (part : Bor (Value A))
        (within : k < length vs) (is : part.now ≡ get_or vs k part.now) (below : ℕ)
        (more : List (Slot A)) (adds : AddsElement mid place (kinds.Value part) below more) where
      -- the element is put at the next place
      element_put : (tree : Tree A) (path : ℕ → Path) → Holds old tree path → (next : Tree A)
          × ((r : Result (Tree A) Reason) → FillsPlaces next (path place) (drop k vs) r
          → FillsPlaces tree (path place) vs r)
          × (n : ℕ) × IsNext next (path place) n
          × Keeps tree (put next (placed n ∷ path place) (valued part.now))
          × Goes old path
          (put next (placed n ∷ path place) (valued part.now), placed n ∷ path place) below more
      element_put tree path holds =
          let (next, f, keeps, goes) = left tree path holds in
          let (was, at) = some_there mid place goes.within in
          let n = length was.elements.items in
          let q = path place in
          let (first, was_there) = some_there old place inside in
          let (value, is_value) = has first was_there in
          let here : tree q ≡ valued value.now =
          holds.there place first was_there
          ∙ ap (λ kind. node_of kind (length first.elements.items)) is_value in
          let then_here : next (goes.paths place) ≡ valued value.now =
          ap next goes.at ∙ keeps q value.now here in
          let node : node_of was.kind (n + 1) ≡ next (goes.paths place) =
          same_value was.kind n (n + 1) value.now
          (sym (goes.holds.there place was at) ∙ then_here) ∙ sym then_here in
          let added = adds next goes.paths was goes.holds at in
          let e : (
            put (put next (goes.paths place) (node_of was.kind (n + 1)))
                (placed n ∷ goes.paths place) (valued part.now),
            placed n ∷ goes.paths place,
          )
          ≡ (put next (placed n ∷ q) (valued part.now), placed n ∷ q) =
          ap (λ t. (
            put t (placed n ∷ goes.paths place) (valued part.now),
            placed n ∷ goes.paths place,
          ))
          (put_same next (goes.paths place) (node_of was.kind (n + 1)) (sym node))
          ∙ ap (λ p. (put next (placed n ∷ p) (valued part.now), placed n ∷ p)) goes.at in
          let free : next (placed n ∷ q) ≡ nothing =
          ap (λ p. next (placed n ∷ p)) (sym goes.at)
          ∙ goes.holds.beyond place was at n (omega arith) in (
            next,
            f,
            n,
            record {
              free = free;
              taken = λ j w g.
                  let (i, h) = some_there was.elements.items j w in
                  let (v, p) = goes.holds.elements place was at j i h in
                  let (s, there) = some_there mid i v in
                  some_node s.kind (length s.elements.items)
                  (sym (goes.holds.there i s there) ∙ ap next p
                  ∙ ap (λ p. next (placed j ∷ p)) goes.at ∙ g);
            },
            keeps_then keeps (keeps_put next (placed n ∷ q) (valued part.now)
                (λ v g. absurd (no_value v (sym free ∙ g)))),
            goes_on goes (subst (λ t. Goes mid goes.paths t below more) e added),
          )

      there : drop k vs ≡ part.now ∷ drop (k + 1) vs
      there = drop_here vs k part.now within is

      pub element_filled : (done : Unit {0}) (new : List (Slot A))
          → FillsBy (λ t p r. Fills t p part.now r) more below (Ok done) new
          → LeftToFill FillsPlaces old place vs (k + 1) new
      element_filled done new filled tree path holds =
          let (next, f, n, is_next, keeps, goes) = element_put tree path holds in
          let q = path place in
          let put_tree = put next (placed n ∷ q) (valued part.now) in
          let (then_tree, fills, kept, goes_then) = filled put_tree goes.paths goes.holds in (
            then_tree,
            λ r rest. f r (subst (λ l. FillsPlaces next q l r) (sym there)
                (runs.place n is_next (subst (λ p. Fills put_tree p part.now (Ok then_tree)) goes.at
                fills) rest)),
            keeps_then keeps kept,
            goes_back (goes_on goes goes_then) place inside,
          )

      pub element_refused : (stop : Stop) (new : List (Slot A))
          → FillsBy (λ t p r. Fills t p part.now r) more below (Err stop) new
          → FillsBy (λ t p r. FillsPlaces t p vs r) old place (Err stop) new
      element_refused OutOfMemory new filled = tt
      element_refused (Invalid why) new filled = λ tree path holds.
          let (next, f, n, is_next, keeps, goes) = element_put tree path holds in
          let q = path place in
          let put_tree = put next (placed n ∷ q) (valued part.now) in
          f (Err why) (subst (λ l. FillsPlaces next q l (Err why)) (sym there)
          (runs.place_refused n is_next (subst (λ p. Fills put_tree p part.now (Err why)) goes.at
          (filled put_tree goes.paths goes.holds))))

    -- all parts are in the tree
    pub all_filled : {X : Type 0} (By : Tree A → Path → List X → Result (Tree A) Reason → Type 0)
        → ((tree : Tree A) (q : Path) → By tree q [] (Ok tree)) → (xs : List X) (k : ℕ)
        → LeftToFill By old place xs k mid → length xs ≤ k → (done : Unit {0})
        → FillsBy (λ t p r. By t p xs r) old place (Ok done) mid
    all_filled By none xs k left past done tree path holds =
        let (next, f, keeps, goes) = left tree path holds in (
          next,
          f (Ok next) (subst (λ l. By next (path place) l (Ok next)) (sym (drop_past xs k past))
              (none next (path place))),
          keeps,
          goes,
        )

    -- ---- entries of an inline table

    module _ (es : List (Key A × Value A)) (k : ℕ)
        (left : LeftToFill FillsNames old place es k mid) (e : Key A × Value A)
        (within : k < length es) (is : e ≡ get_or es k e) where
      there_is : drop k es ≡ e ∷ drop (k + 1) es
      there_is = drop_here es k e within is

      pub entry_filled : (done : Unit {0}) (new : List (Slot A))
          → FillsBy (λ t p r. FillsEntry t p e.0 e.1 r) mid place (Ok done) new
          → LeftToFill FillsNames old place es (k + 1) new
      entry_filled done new filled tree path holds =
          let (next, f, keeps, goes) = left tree path holds in
          let q = path place in
          let (then_tree, fills, kept, goes_then) = filled next goes.paths goes.holds in (
            then_tree,
            λ r rest. f r (subst (λ l. FillsNames next q l r) (sym there_is)
                (runs.name (subst (λ p. FillsEntry next p e.0 e.1 (Ok then_tree)) goes.at fills)
                rest)),
            keeps_then keeps kept,
            goes_back (goes_on goes goes_then) place inside,
          )

      pub entry_refused : (stop : Stop) (new : List (Slot A))
          → FillsBy (λ t p r. FillsEntry t p e.0 e.1 r) mid place (Err stop) new
          → FillsBy (λ t p r. FillsNames t p es r) old place (Err stop) new
      entry_refused OutOfMemory new filled = tt
      entry_refused (Invalid why) new filled = λ tree path holds.
          let (next, f, keeps, goes) = left tree path holds in
          f (Err why) (subst (λ l. FillsNames next (path place) l (Err why)) (sym there_is)
          (runs.name_refused (subst (λ p. FillsEntry next p e.0 e.1 (Err why)) goes.at
          (filled next goes.paths goes.holds))))

  -- ---- a key and its value

  module _ (old : List (Slot A)) (place : ℕ) (inside : place < length old) (key : Key A)
      (v : Value A) where
    pub value_filled : (below : ℕ) (mid : List (Slot A))
        → SaysKey old place key.names.items dots (gives v) (Ok below) mid
        → (answer : Result (Unit {0}) Stop) (new : List (Slot A))
        → FillsBy (λ t p r. Fills t p v r) mid below answer new
        → FillsBy (λ t p r. FillsEntry t p key v r) old place answer new
    value_filled below mid said (Ok done) new filled = λ tree path holds.
        let (s, told, goes) = said tree path holds in
        let (next, fills, keeps, goes_then) = filled s.0 goes.paths goes.holds in (
          next,
          runs.entry s told (subst (λ p. Fills s.0 p v (Ok next)) goes.at fills),
          keeps_then (key_keeps v (tree, path place) s key.names.items told) keeps,
          goes_back (goes_on goes goes_then) place inside,
        )
    value_filled below mid said (Err OutOfMemory) new filled = tt
    value_filled below mid said (Err (Invalid why)) new filled = λ tree path holds.
        let (s, told, goes) = said tree path holds in
        runs.entry s told (subst (λ p. Fills s.0 p v (Err why)) goes.at
        (filled s.0 goes.paths goes.holds))

    pub key_refused : (stop : Stop) (new : List (Slot A))
        → SaysKey old place key.names.items dots (gives v) (Err stop) new
        → FillsBy (λ t p r. FillsEntry t p key v r) old place (Err stop) new
    key_refused OutOfMemory new said = tt
    key_refused (Invalid why) new said = λ tree path holds.
        runs.entry_refused (said tree path holds)
