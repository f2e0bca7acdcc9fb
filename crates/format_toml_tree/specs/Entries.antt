-- Slots whose entries are those of their map, in order.
use Rattle.std.specs.Prelude.{◌≡◌, ◌⊎◌, ℕ, zero, suc, ◌<◌, List, [], ◌∷◌, ◌++◌, length}
use Rattle.std.specs.Prelude.{None, Some, slice_get}
use Rattle.std.proofs.Common.{refl, sym, ap, inl, inr, ◌∙◌, arith}
use Rattle.std.proofs.lemmas.Option.{slice_get_within}
use Rattle.format_toml_tree.specs.Holds.{IsFresh, Lists, find}
use Rattle.format_toml_tree.specs.Places.{get_push}
use Rattle.format_toml_tree.specs.declared.tree.Kind.{Kind}
use Rattle.format_toml_tree.specs.declared.tree.Slot.{Slot}

none_some : {X : Type 0} {x : X} → None ≡ Some x → ⊥
none_some e = cc

same_number : {j k : ℕ} → Some j ≡ Some k → j ≡ k
same_number e = cc

get_still : {X : Type 0} (xs : List X) (y x : X) (i : ℕ) → slice_get xs i ≡ Some x
    → slice_get (xs ++ y ∷ []) i ≡ Some x
get_still [] y x i e = absurd (cc)
get_still (z ∷ xs) y x zero e = e
get_still (z ∷ xs) y x (suc i) e = get_still xs y x i e

get_end : {X : Type 0} (xs : List X) (y : X) → slice_get (xs ++ y ∷ []) (length xs) ≡ Some y
get_end [] y = refl
get_end (x ∷ xs) y = get_end xs y

module _ {A : Type 0} where
  -- a slot with nothing below it
  pub lists_none : {depth : ℕ} {name : List ℕ} {kind : Kind A} {s : Slot A}
      → IsFresh depth name kind s → ((n : List ℕ) → find s.places n ≡ None) → Lists s
  lists_none is none = record {
    entry = λ k j f.
        absurd (none_some (ap (λ xs. slice_get xs k) (sym is.no_entries) ∙ f));
    listed = λ n j f. absurd (none_some (sym (none n) ∙ f));
    in_order = λ k m a b w f g.
        absurd (none_some (ap (λ xs. slice_get xs k) (sym is.no_entries) ∙ f));
  }

  module _ {was : Slot A} (now : Slot A) (old : Lists was) where
    -- the entries are the same
    pub lists_same : now.places ≡ was.places → now.entries ≡ was.entries → Lists now
    lists_same p r = record {
      entry = λ k j f.
          let (x, y) = old.entry k j (ap (λ v. slice_get v.items k) (sym r) ∙ f) in
          (x, ap (λ m. find m x) p ∙ y);
      listed = λ x j f.
          let (k, y) = old.listed x j (ap (λ m. find m x) (sym p) ∙ f) in
          (k, ap (λ v. slice_get v.items k) r ∙ y);
      in_order = λ k m a b w f g. old.in_order k m a b w
          (ap (λ v. slice_get v.items k) (sym r) ∙ f)
          (ap (λ v. slice_get v.items m) (sym r) ∙ g);
    }

    module _ (name : List ℕ) (place : ℕ) (none : find was.places name ≡ None)
        (before : (n : List ℕ) (j : ℕ) → find was.places n ≡ Some j → j < place)
        (finds : (n : List ℕ) → ((n ≡ name) × (find now.places n ≡ Some place))
        ⊎ ((n ≡ name → ⊥) × (find now.places n ≡ find was.places n)))
        (items : now.entries.items ≡ was.entries.items ++ place ∷ []) where
      entry_of : (k j : ℕ)
          → (slice_get was.entries.items k ≡ Some j) ⊎ ((k ≡ length was.entries.items)
          × (j ≡ place))
          → (n : List ℕ) × (find now.places n ≡ Some j)
      entry_of k j (inl f) =
          let (n, g) = old.entry k j f in elim (finds n) [
            | inl (a, b) ↦ absurd (none_some (sym none ∙ ap (λ x. find was.places x) (sym a) ∙ g))
            | inr (a, b) ↦ (n, b ∙ g)
          ]
      entry_of k j (inr (a, b)) = elim (finds name) [
        | inl (c, d) ↦ (name, d ∙ ap (λ x. Some x) (sym b))
        | inr (c, d) ↦ absurd (c refl)
      ]

      get_items : (k j : ℕ) → slice_get now.entries.items k ≡ Some j
          → (slice_get was.entries.items k ≡ Some j) ⊎ ((k ≡ length was.entries.items)
          × (j ≡ place))
      get_items k j f =
          get_push was.entries.items place j k (ap (λ xs. slice_get xs k) (sym items) ∙ f)

      in_order_then : (k m a b : ℕ) → k < m
          → (slice_get was.entries.items k ≡ Some a) ⊎ ((k ≡ length was.entries.items)
          × (a ≡ place))
          → (slice_get was.entries.items m ≡ Some b) ⊎ ((m ≡ length was.entries.items)
          × (b ≡ place))
          → a < b
      in_order_then k m a b w (inl f) (inl g) = old.in_order k m a b w f g
      in_order_then k m a b w (inl f) (inr (c, d)) =
          let (n, g) = old.entry k a f in omega (arith, before n a g, d)
      in_order_then k m a b w (inr (c, d)) (inl g) =
          absurd (omega (arith, slice_get_within was.entries.items m b g, c, w))
      in_order_then k m a b w (inr (c, d)) (inr (f, g)) = absurd (omega (arith, c, f, w))

      -- one entry more, at the end
      pub lists_more : Lists now
      lists_more = record {
        entry = λ k j f. entry_of k j (get_items k j f);
        listed = λ n j f. elim (finds n) [
          | inl (a, b) ↦ (
            length was.entries.items,
            ap (λ xs. slice_get xs (length was.entries.items)) items
                ∙ get_end was.entries.items place
                ∙ ap (λ x. Some x) (same_number (sym b ∙ f)),
          )
          | inr (a, b) ↦
              let (k, g) = old.listed n j (sym b ∙ f) in (
                k,
                ap (λ xs. slice_get xs k) items ∙ get_still was.entries.items place j k g,
              )
        ];
        in_order = λ k m a b w f g. in_order_then k m a b w (get_items k a f) (get_items m b g);
      }
