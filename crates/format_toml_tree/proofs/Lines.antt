-- Lines that are added to a tree, in sequence.
use Rattle.std.specs.Prelude.{◌≡◌, ℕ, zero, suc, ◌+◌, ◌<◌, ◌≤◌, List, [], ◌∷◌, length, drop, Err}
use Rattle.std.specs.Prelude.{None, Ok, Result, Some, get_or, slice_get}
use Rattle.std.proofs.Common.{refl, sym, ap, subst, inl, inr, ◌∙◌, arith}
use Rattle.format_toml_tree.specs.Paths.{Path, Step}
use Rattle.format_toml_tree.specs.Rules.{Says, nothing, passes}
use Rattle.std.proofs.lemmas.Bool.{cases_lt}
use Rattle.std.proofs.lemmas.List.{append-nil, get_or_append_left, length-append}
use Rattle.format_toml_tree.proofs.Earlier.{IsEarlier, IsFront, earlier_now, earlier_still}
use Rattle.format_toml_tree.proofs.Earlier.{in_order}
use Rattle.format_toml_tree.specs.Once.{gives_once}
use Rattle.format_toml_tree.specs.Order.{HoldsInOrder}
use Rattle.format_toml_tree.specs.Runs.{State, FillsEntry, Gives, IsWithin, Runs, RunsWithin}
use Rattle.format_toml_tree.specs.Runs.{Tree, empty, say_key}
use Rattle.format_toml_tree.specs.Runs as runs
use Rattle.format_toml_tree.specs.Holds.{AddsItem, AddsLine, FillsBy, Holds, IsTreeAt, Lists}
use Rattle.format_toml_tree.specs.Holds.{Pushes, SaysKey, StartsEmpty, find, node_at}
use Rattle.format_toml_tree.specs.Calls.{fresh_node, fresh_none}
use Rattle.format_toml_tree.specs.Entries.{lists_none}
use Rattle.format_toml_tree.specs.Keys.{drop_here, drop_past}
use Rattle.format_toml_tree.specs.declared.roles.Reason.{Reason}
use Rattle.format_toml_tree.specs.declared.tree.Kind.TheVariants as kinds
use Rattle.format_toml_tree.specs.declared.tree.Slot.{Slot}
use Rattle.format_toml_tree.specs.declared.tree.Stop.{Stop}
use Rattle.format_toml_tree.specs.declared.tree.Stop.TheVariants.{OutOfMemory, Invalid}
use Rattle.format_toml_tree.specs.declared.value.Item.{Item}
use Rattle.format_toml_tree.specs.declared.value.Item.TheVariants as items
use Rattle.format_toml_tree.specs.declared.value.Key.{Key}
use Rattle.format_toml_tree.specs.declared.value.Value.{Value}

none_some : {X : Type 0} (x : X) → None ≡ Some x → ⊥
none_some x e = cc

-- only the top of the tree before all lines is a table
top_within : (A : Type 0) (level : ℕ) → IsWithin {A = A} level empty
top_within A level [] has = omega arith
top_within A level (e ∷ p) (inl never) = absurd never
top_within A level (e ∷ p) (inr never) = absurd never

module _ {A : Type 0} where
  -- ---- the first place

  only : (s t : Slot A) (i : ℕ) → slice_get (s ∷ []) i ≡ Some t → (i ≡ 0) × (t ≡ s)
  only s t zero e = (refl, (cc))
  only s t (suc i) e = absurd (none_some t e)

  pub starts_empty : (slots : List (Slot A)) (place : ℕ) → Pushes [] 0 [] kinds.Header place slots
      → StartsEmpty slots
  starts_empty slots place (s, is, e, j) =
      subst (λ l. StartsEmpty l) (sym e) (
        λ i. [],
        record {
          top = refl;
          there = λ i t g. sym (ap (λ x. node_at x) (only s t i g).1 ∙ fresh_node is);
          apart = λ a b v w f. omega (arith, v, w);
          found = λ i t g name k f. absurd (none_some k
              (sym (fresh_none is name) ∙ ap (λ x. find x.places name) (sym (only s t i g).1) ∙ f));
          missing = λ i t g name f. refl;
          elements = λ i t g k m f. absurd (none_some m
              (ap (λ xs. slice_get xs k) (sym is.no_elements)
              ∙ ap (λ x. slice_get x.elements.items k) (sym (only s t i g).1) ∙ f));
          beyond = λ i t g k f. refl;
          below = empty_below;
          deeper = λ a b e v w f. absurd (cc);
          rising = λ a b k m p v w f g less. absurd (cc);
          depth = λ i t g. one_depth i t (only s t i g);
          called = λ i t g. ap (λ x. x.name.now) (only s t i g).1 ∙ is.name_is;
          lists = λ i t g. subst (λ x. Lists x) (sym (only s t i g).1)
              (lists_none is (fresh_none is));
        },
        omega arith,
      )
    where
      one_depth : (i : ℕ) (t : Slot A) → (i ≡ 0) × (t ≡ s)
          → (t.depth ≡ length {A = Step} []) × (t.depth ≤ i)
      one_depth i t (a, b) =
          let none : t.depth ≡ 0 = ap (λ x. x.depth) b ∙ is.depth_is in
          (none, omega (arith, none))

      empty_below : (p : Path) (e : Step) → empty {A = A} p ≡ nothing
          → empty {A = A} (e ∷ p) ≡ nothing
      empty_below [] e f = refl
      empty_below (d ∷ p) e f = refl

  -- ---- what a line says

  module _ (old : List (Slot A)) (table : ℕ) (key : Key A) (item : Item A) where
    -- a header says its key by these rules
    pub adds_header : (last : Says A) → ((s : State A) (r : Result (State A) Reason)
        → r ≡ say_key passes last (s.0, []) key.names.items → Runs s item r)
        → (answer : Result ℕ Stop) (new : List (Slot A))
        → SaysKey old 0 key.names.items passes last answer new → AddsItem old table item answer new
    adds_header last tells (Ok j) new said = λ tree path holds.
        let (s, told, goes) = said tree path holds in
        let top = ap (λ p. say_key passes last (tree, p) key.names.items) (sym holds.top) in
        (s, tells (tree, path table) (Ok s) (sym (top ∙ told)), goes)
    adds_header last tells (Err OutOfMemory) new said = tt
    adds_header last tells (Err (Invalid why)) new said = λ tree path holds.
        let top = ap (λ p. say_key passes last (tree, p) key.names.items) (sym holds.top) in
        tells (tree, path table) (Err why) (sym (top ∙ said tree path holds))

    module _ (value : Value A) (e : item ≡ items.Entry key value) where
      pub adds_value : (done : Unit {0}) (new : List (Slot A))
          → FillsBy (λ t p r. FillsEntry t p key value r) old table (Ok done) new
          → AddsItem old table item (Ok table) new
      adds_value done new filled = λ tree path holds.
          let (next, fills, keeps, goes) = filled tree path holds in (
            (next, path table),
            subst (λ i. Runs (tree, path table) i (Ok (next, path table))) (sym e)
                (Ok next, fills, refl),
            goes,
          )

      pub adds_refused : (stop : Stop) (new : List (Slot A))
          → FillsBy (λ t p r. FillsEntry t p key value r) old table (Err stop) new
          → AddsItem old table item (Err stop) new
      adds_refused OutOfMemory new filled = tt
      adds_refused (Invalid why) new filled = λ tree path holds.
          subst (λ i. Runs (tree, path table) i (Err why)) (sym e)
          (Err why, filled tree path holds, refl)

  -- ---- lines in turn

  -- The lines from the k-th on are left to add, to a state that places hold.
  pub record LeftToAdd (level : ℕ) (lines : List (Item A)) (k table : ℕ)
      (slots : List (Slot A)) : Type 0
    where
      pub tree : Tree A
      pub path : ℕ → Path
      pub holds : Holds slots tree path
      pub within : table < length slots
      pub nested : IsWithin level tree
      pub left : (front : List (Item A)) → IsFront front lines k
          → (r : Result (Tree A) (ℕ × Reason))
          → Gives level (tree, path table) k (drop k front) r → Gives level (empty, []) 0 front r
      pub earlier : (front : List (Item A)) (t : Tree A) → IsFront front lines 0
          → length front ≤ k → Gives level (empty, []) 0 front (Ok t)
          → IsEarlier path (length slots) t

  same_tree : {t u : Tree A} {r : Result (Tree A) (ℕ × Reason)} → r ≡ Ok t → r ≡ Ok u → t ≡ u
  same_tree e f = cc

  no_lines : (front : List (Item A)) → length front ≤ 0 → front ≡ []
  no_lines [] none = refl
  no_lines (line ∷ front) none = absurd (omega (arith, none))

  none_given : (level : ℕ) (front : List (Item A)) → front ≡ []
      → Gives level (empty, []) 0 front (Ok empty)
  none_given level front e =
      subst (λ l. Gives level (empty, []) 0 l (Ok empty)) (sym e) runs.ended

  pub left_first : (level : ℕ) (lines : List (Item A)) (slots : List (Slot A))
      → StartsEmpty slots
      → LeftToAdd level lines 0 0 slots
  left_first level lines slots (path, holds, within) = record {
    tree = empty;
    path = path;
    holds = holds;
    within = within;
    nested = top_within A level;
    left = λ front is r by. subst (λ p. Gives level (empty, p) 0 front r) holds.top by;
    earlier = λ front t is none gives. subst (λ u. IsEarlier path (length slots) u)
        (same_tree refl (gives_once (none_given level front (no_lines front none)) gives))
        (earlier_now holds within);
  }

  whole : (lines : List (Item A)) (k : ℕ) → k ≤ length lines → IsFront lines lines k
  whole lines k most = record {
    rest = [];
    are = sym (append-nil lines);
    least = most;
  }

  module _ (level : ℕ) (lines : List (Item A)) (k table : ℕ) (slots : List (Slot A))
      (left : LeftToAdd level lines k table slots) where
    pub stands : IsTreeAt slots table
    stands = (left.tree, left.path, left.holds, left.within)

    module _ (line : Item A) (within : k < length lines) (is : line ≡ get_or lines k line)
      where
        here : (front : List (Item A)) → IsFront front lines (k + 1)
            → drop k front ≡ line ∷ drop (k + 1) front
        here front of =
            let less : k < length front = omega (arith, of.least) in
            drop_here front k line less (is ∙ ap (λ l. get_or l k line) of.are
            ∙ get_or_append_left front of.rest line k less)

        shorter : (front : List (Item A)) → IsFront front lines (k + 1)
            → IsFront front lines k
        shorter front of =
            record { rest = of.rest; are = of.are; least = omega (arith, of.least) }

        -- the trees of the first lines, from those of fewer lines and that of all until here
        earlier_then : (tree : Tree A) (path : ℕ → Path) (new : List (Slot A)) (at : Path)
            → Holds new tree path → 0 < length new
            → ((t : Tree A) → IsEarlier left.path (length slots) t
            → IsEarlier path (length new) t)
            → ((front : List (Item A)) → IsFront front lines (k + 1)
            → (r : Result (Tree A) (ℕ × Reason))
            → Gives level (tree, at) (k + 1) (drop (k + 1) front) r
            → Gives level (empty, []) 0 front r)
            → (front : List (Item A)) (t : Tree A) → IsFront front lines 0
            → length front ≤ k + 1 → Gives level (empty, []) 0 front (Ok t)
            → IsEarlier path (length new) t
        earlier_then tree path new at holds some still then_left front t of most gives =
            elim (cases_lt k (length front)) [
              | inl more ↦
                  let full : IsFront front lines (k + 1) =
                  record { rest = of.rest; are = of.are; least = omega (arith, more) } in
                  let ended = then_left front full (Ok tree)
                  (subst (λ l. Gives level (tree, at) (k + 1) l (Ok tree))
                  (sym (drop_past front (k + 1) most)) runs.ended) in
                  subst (λ u. IsEarlier path (length new) u)
                  (same_tree refl (gives_once ended gives)) (earlier_now holds some)
              | inr fewer ↦ still t (left.earlier front t of fewer gives)
            ]

        pub left_added : (j : ℕ) (new : List (Slot A))
            → AddsLine level slots table line (Ok j) new
            → LeftToAdd level lines (k + 1) j new
        left_added j new added =
            let (s, ran, is, goes) = added left.tree left.path left.holds left.nested in
            let then_left = more s j ran in record {
              tree = s.0;
              path = goes.paths;
              holds = goes.holds;
              within = goes.within;
              nested = is;
              left = λ front of r by. then_left front of r
                  (subst (λ p. Gives level (s.0, p) (k + 1) (drop (k + 1) front) r) goes.at by);
              earlier = earlier_then s.0 goes.paths new s.1 goes.holds
                  (omega (arith, goes.within)) (λ t was. earlier_still goes was) then_left;
            }
          where
            more : (s : State A) (j : ℕ)
                → RunsWithin level (left.tree, left.path table) line (Ok s)
                → (front : List (Item A)) → IsFront front lines (k + 1)
                → (r : Result (Tree A) (ℕ × Reason))
                → Gives level s (k + 1) (drop (k + 1) front) r
                → Gives level (empty, []) 0 front r
            more s j ran front of r by = left.left front (shorter front of) r
                (subst (λ l. Gives level (left.tree, left.path table) k l r)
                (sym (here front of)) (runs.accepted ran by))

        pub line_refused : (why : Reason) (new : List (Slot A))
            → AddsLine level slots table line (Err (Invalid why)) new
            → Gives level (empty, []) 0 lines (Err (k, why))
        line_refused why new added =
            left.left lines (whole lines k (omega (arith, within))) (Err (k, why))
            (subst (λ l. Gives level (left.tree, left.path table) k l (Err (k, why)))
            (sym (here lines (whole lines (k + 1) (omega (arith, within)))))
            (runs.refused (added left.tree left.path left.holds)))

    module _ (past : length lines ≤ k) (most : k ≤ length lines) where
      pub all_added : Gives level (empty, []) 0 lines (Ok left.tree)
      all_added =
          left.left lines (whole lines k most) (Ok left.tree)
          (subst (λ l. Gives level (left.tree, left.path table) k l (Ok left.tree))
          (sym (drop_past lines k past)) runs.ended)

      pub all_in_order : HoldsInOrder level lines slots
      all_in_order = (
        left.tree,
        left.path,
        all_added,
        left.holds,
        omega (arith, left.within),
        in_order level lines left.holds (λ front t of gives. left.earlier front t of
            (front_within front of) gives),
      )
        where
          front_within : (front : List (Item A)) → IsFront front lines 0
              → length front ≤ k
          front_within front of =
              let count : length lines ≡ length front + length of.rest =
              ap (λ l. length l) of.are ∙ length-append front of.rest in
              omega (arith, count, past)

    pub some_place : 0 < length slots
    some_place = omega (arith, left.within)
