-- Places that change or are added hold what is put there.
use Rattle.std.specs.Prelude.{◌≡◌, ◌⊎◌, ℕ, zero, suc, ◌<◌, ◌≤◌, List, [], ◌∷◌, ◌++◌, length}
use Rattle.std.specs.Prelude.{set}
use Rattle.std.specs.Prelude.{Some, slice_get}
use Rattle.std.proofs.Common.{refl, sym, ap, subst, inl, inr, ◌∙◌, arith}
use Rattle.std.proofs.lemmas.List.{length-set}
use Rattle.std.proofs.lemmas.Option.{slice_get_within}
use Rattle.format_toml_tree.specs.Paths.{Path, Step, named, placed, put, put_here, put_apart}
use Rattle.format_toml_tree.specs.Rules.{nothing}
use Rattle.format_toml_tree.specs.Runs.{Tree}
use Rattle.format_toml_tree.specs.declared.tree.Kind.{Kind}
use Rattle.format_toml_tree.specs.declared.tree.Kind.TheVariants as kinds
use Rattle.format_toml_tree.specs.declared.tree.Slot.{Slot}
use Rattle.format_toml_tree.specs.Holds.{Holds, find, node_at, node_of}

-- ---- places of lists

some_same : {X : Type 0} {x y : X} → Some x ≡ Some y → x ≡ y
some_same e = cc

pub get_push : {X : Type 0} (xs : List X) (y x : X) (i : ℕ) → slice_get (xs ++ y ∷ []) i ≡ Some x
    → (slice_get xs i ≡ Some x) ⊎ ((i ≡ length xs) × (x ≡ y))
get_push [] y x zero e = inr (refl, sym (some_same e))
get_push [] y x (suc i) e = absurd (cc)
get_push (z ∷ xs) y x zero e = inl e
get_push (z ∷ xs) y x (suc i) e = elim (get_push xs y x i e) [
  | inl a ↦ inl a
  | inr (a, b) ↦ inr (ap (λ n. suc n) a, b)
]

pub get_set : {X : Type 0} (xs : List X) (j : ℕ) (y x : X) (i : ℕ)
    → slice_get (set xs j y) i ≡ Some x
    → ((i ≡ j) × (x ≡ y)) ⊎ ((i ≡ j → ⊥) × (slice_get xs i ≡ Some x))
get_set [] j y x i e = absurd (cc)
get_set (z ∷ xs) zero y x zero e = inl (refl, sym (some_same e))
get_set (z ∷ xs) zero y x (suc i) e = inr (λ f. omega (arith, f), e)
get_set (z ∷ xs) (suc j) y x zero e = inr (λ f. omega (arith, f), e)
get_set (z ∷ xs) (suc j) y x (suc i) e = elim (get_set xs j y x i e) [
  | inl (a, b) ↦ inl (ap (λ n. suc n) a, b)
  | inr (a, b) ↦ inr (λ f. a (omega (arith, f)), b)
]

pub longer : (e : Step) (p : Path) → e ∷ p ≡ p → ⊥
longer e p f = let same : length (e ∷ p) ≡ length p = ap (λ q. length q) f in omega (arith, same)

module _ {A : Type 0} where
  pub some_node : (k : Kind A) (n : ℕ) → node_of k n ≡ nothing → ⊥
  some_node (kinds.Value v) n e = cc
  some_node kinds.Super n e = cc
  some_node kinds.Header n e = cc
  some_node kinds.Dotted n e = cc
  some_node kinds.Tables n e = cc

  -- ---- a place changes its kind

  module _ {slots : List (Slot A)} {tree : Tree A} {path : ℕ → Path}
      (is : Holds slots tree path) where
    -- no place is where there is nothing
    pub nowhere : (i : ℕ) (s : Slot A) → slice_get slots i ≡ Some s → (p : Path) → tree p ≡ nothing
        → p ≡ path i → ⊥
    nowhere i s g p none e = some_node s.kind (length s.elements.items)
        (sym (is.there i s g) ∙ ap tree (sym e) ∙ none)

    module _ (j : ℕ) (was now : Slot A) (at : slice_get slots j ≡ Some was)
        (places : now.places ≡ was.places) (elements : now.elements ≡ was.elements)
        (depth : now.depth ≡ was.depth) (entries : now.entries ≡ was.entries)
        (name : now.name ≡ was.name) where
      abbrev then_tree : Tree A
      then_tree = put tree (path j) (node_at now)

      still_none : (p : Path) → tree p ≡ nothing → then_tree p ≡ nothing
      still_none p none =
          put_apart tree (path j) (node_at now) p (nowhere j was at p none) ∙ none

      there_then : (i : ℕ) (s : Slot A) → slice_get (set slots j now) i ≡ Some s
          → then_tree (path i) ≡ node_at s
      there_then i s g = elim (get_set slots j now s i g) [
        | inl (a, b) ↦ put_here tree (path j) (node_at now) (path i) (ap path a)
            ∙ ap (λ t. node_at t) (sym b)
        | inr (a, b) ↦ put_apart tree (path j) (node_at now) (path i)
            (λ e. a (is.apart i j (slice_get_within slots i s b)
            (slice_get_within slots j was at) e))
            ∙ is.there i s b
      ]

      -- a place and what it was before
      before : (i : ℕ) (s : Slot A) → slice_get (set slots j now) i ≡ Some s
          → (t : Slot A) × (slice_get slots i ≡ Some t) × (s.places ≡ t.places)
          × (s.elements ≡ t.elements) × (s.entries ≡ t.entries) × (s.name ≡ t.name)
      before i s g = elim (get_set slots j now s i g) [
        | inl (a, b) ↦ (
          was,
          ap (λ n. slice_get slots n) a ∙ at,
          ap (λ t. t.places) b ∙ places,
          ap (λ t. t.elements) b ∙ elements,
          ap (λ t. t.entries) b ∙ entries,
          ap (λ t. t.name) b ∙ name,
        )
        | inr (a, b) ↦ (s, b, refl, refl, refl, refl)
      ]

      within : (i : ℕ) → i < length (set slots j now) → i < length slots
      within i w = subst (λ n. i < n) (length-set slots j now) w

      pub altered : Holds (set slots j now) then_tree path
      altered = record {
        top = is.top;
        there = there_then;
        apart = λ a b v w e. is.apart a b (within a v) (within b w) e;
        found = λ i s g name k f.
            let (t, h, p, q, _, _) = before i s g in
            let (w, e) = is.found i t h name k (ap (λ m. find m name) (sym p) ∙ f) in
            (subst (λ n. k < n) (sym (length-set slots j now)) w, e);
        missing = λ i s g name f.
            let (t, h, p, q, _, _) = before i s g in
            still_none (named name ∷ path i)
            (is.missing i t h name (ap (λ m. find m name) (sym p) ∙ f));
        elements = λ i s g k m f.
            let (t, h, p, q, _, _) = before i s g in
            let (w, e) = is.elements i t h k m (ap (λ v. slice_get v.items k) (sym q) ∙ f) in
            (subst (λ n. m < n) (sym (length-set slots j now)) w, e);
        beyond = λ i s g k f.
            let (t, h, p, q, _, _) = before i s g in
            still_none (placed k ∷ path i)
            (is.beyond i t h k (subst (λ v. length v.items ≤ k) q f));
        below = λ p e none.
            let other : p ≡ path j → ⊥ = λ f. some_node now.kind (length now.elements.items)
            (sym (put_here tree (path j) (node_at now) p f) ∙ none) in
            still_none (e ∷ p)
            (is.below p e (sym (put_apart tree (path j) (node_at now) p other) ∙ none));
        deeper = λ a b e v w f. is.deeper a b e (within a v) (within b w) f;
        rising = λ a b k m p v w f g. is.rising a b k m p (within a v) (within b w) f g;
        depth = λ i s g. elim (get_set slots j now s i g) [
          | inl (a, b) ↦ rw (a, b, depth) (is.depth j was at)
          | inr (a, b) ↦ is.depth i s b
        ];
        called = λ i s g.
            let (t, h, p, q, r, n) = before i s g in
            ap (λ x. x.now) n ∙ is.called i t h;
        lists = λ i s g.
            let (t, h, p, q, r, n) = before i s g in
            let old = is.lists i t h in record {
              entry = λ k m f.
                  let (x, y) = old.entry k m (ap (λ v. slice_get v.items k) (sym r) ∙ f) in
                  (x, ap (λ m. find m x) p ∙ y);
              listed = λ x m f.
                  let (k, y) = old.listed x m (ap (λ m. find m x) (sym p) ∙ f) in
                  (k, ap (λ v. slice_get v.items k) r ∙ y);
              in_order = λ k m a b w f o. old.in_order k m a b w
                  (ap (λ v. slice_get v.items k) (sym r) ∙ f)
                  (ap (λ v. slice_get v.items m) (sym r) ∙ o);
            };
      }
