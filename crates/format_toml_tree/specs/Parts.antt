-- The parts of a value fill the tree below its slot, in sequence.
use Rattle.std.specs.Prelude.{◌≡◌, ℕ, ◌<◌, List, length, Some}
use Rattle.std.specs.Prelude.{Result, Ok, Err, slice_get}
use Rattle.std.specs.declared.vec.Vec.{Vec}
use Rattle.std.specs.Borrow.{Bor}
use Rattle.std.proofs.Common.{refl, sym, ap, subst, ◌∙◌}
use Rattle.std.proofs.lemmas.Option.{slice_get_within}
use Rattle.format_toml_tree.specs.Paths.{Path}
use Rattle.format_toml_tree.specs.Rules.{valued}
use Rattle.format_toml_tree.specs.Runs.{Fills, FillsNames, FillsPlaces, HasValue}
use Rattle.format_toml_tree.specs.Runs.{Tree}
use Rattle.format_toml_tree.specs.Runs as runs
use Rattle.format_toml_tree.specs.Holds.{FillsBy, Holds}
use Rattle.format_toml_tree.specs.Holds.{node_of}
use Rattle.format_toml_tree.specs.Calls.{stays}
use Rattle.format_toml_tree.specs.declared.roles.Reason.{Reason}
use Rattle.format_toml_tree.specs.declared.tree.Kind.{Kind}
use Rattle.format_toml_tree.specs.declared.tree.Kind.TheVariants as kinds
use Rattle.format_toml_tree.specs.declared.tree.Slot.{Slot}
use Rattle.format_toml_tree.specs.declared.tree.Stop.{Stop}
use Rattle.format_toml_tree.specs.declared.tree.Stop.TheVariants.{OutOfMemory, Invalid}
use Rattle.format_toml_tree.specs.declared.value.Key.{Key}
use Rattle.format_toml_tree.specs.declared.value.Value.{Value}
use Rattle.format_toml_tree.specs.declared.value.Value.TheVariants as values

module _ {A : Type 0} where
  -- one rule follows from another
  pub fills_more : (By To : Tree A → Path → Result (Tree A) Reason → Type 0)
      (old new : List (Slot A)) (place : ℕ) (answer : Result (Unit {0}) Stop)
      → ((tree : Tree A) (path : ℕ → Path) → Holds old tree path → (r : Result (Tree A) Reason)
      → By tree (path place) r → To tree (path place) r)
      → FillsBy By old place answer new → FillsBy To old place answer new
  fills_more By To old new place (Ok done) more told = λ tree path holds.
      let (next, by, keeps, goes) = told tree path holds in
      (next, more tree path holds (Ok next) by, keeps, goes)
  fills_more By To old new place (Err OutOfMemory) more told = tt
  fills_more By To old new place (Err (Invalid why)) more told =
      λ tree path holds. more tree path holds (Err why) (told tree path holds)

  -- nothing is filled
  pub fills_none : (By : Tree A → Path → Result (Tree A) Reason → Type 0) (slots : List (Slot A))
      (place : ℕ) → place < length slots
      → ((tree : Tree A) (path : ℕ → Path) → Holds slots tree path → By tree (path place) (Ok tree))
      → (done : Unit {0}) → FillsBy By slots place (Ok done) slots
  fills_none By slots place inside by done tree path holds =
      (tree, by tree path holds, λ p v e. e, stays place holds inside)

  -- ---- a value

  pub kind_of : (k : Kind A) (n : ℕ) (v : Value A) → node_of k n ≡ valued v
      → (value : Bor (Value A)) × (k ≡ kinds.Value value)
  kind_of (kinds.Value w) n v e = (w, refl)
  kind_of kinds.Super n v e = absurd (cc)
  kind_of kinds.Header n v e = absurd (cc)
  kind_of kinds.Dotted n v e = absurd (cc)
  kind_of kinds.Tables n v e = absurd (cc)

  module _ (slots : List (Slot A)) (place : ℕ) (s : Slot A) (at : slice_get slots place ≡ Some s)
    where
      pub fills_nowhere : (v : Value A) → ((value : Bor (Value A)) → s.kind ≡ kinds.Value value → ⊥)
          → (done : Unit {0}) → FillsBy (λ t p r. Fills t p v r) slots place (Ok done) slots
      fills_nowhere v none done =
          fills_none (λ t p r. Fills t p v r) slots place (slice_get_within slots place s at)
          (λ tree path holds. runs.nowhere (λ (w, e).
          let (value, is) = kind_of s.kind (length s.elements.items) w
          (sym (holds.there place s at) ∙ e) in
          none value is)) done

      module _ (value : Bor (Value A)) (is : s.kind ≡ kinds.Value value) where
        has_value : (tree : Tree A) (path : ℕ → Path) → Holds slots tree path
            → HasValue tree (path place)
        has_value tree path holds = (
          value.now,
          holds.there place s at ∙ ap (λ k. node_of k (length s.elements.items)) is,
        )

        pub fills_array : (v : Value A) (vs : Vec (Value A) A) → v ≡ values.Array vs
            → (parts : List (Value A)) → parts ≡ vs.items
            → (answer : Result (Unit {0}) Stop) (new : List (Slot A))
            → FillsBy (λ t p r. FillsPlaces t p parts r) slots place answer new
            → FillsBy (λ t p r. Fills t p v r) slots place answer new
        fills_array v vs e parts same answer new told =
            fills_more (λ t p r. FillsPlaces t p parts r) (λ t p r. Fills t p v r) slots new place
            answer (λ tree path holds r by. runs.array vs (has_value tree path holds) e
            (subst (λ l. FillsPlaces tree (path place) l r) same by)) told

        pub fills_inline : (v : Value A) (es : Vec (Key A × Value A) A) → v ≡ values.Table es
            → (parts : List (Key A × Value A)) → parts ≡ es.items
            → (answer : Result (Unit {0}) Stop) (new : List (Slot A))
            → FillsBy (λ t p r. FillsNames t p parts r) slots place answer new
            → FillsBy (λ t p r. Fills t p v r) slots place answer new
        fills_inline v es e parts same answer new told =
            fills_more (λ t p r. FillsNames t p parts r) (λ t p r. Fills t p v r) slots new place
            answer (λ tree path holds r by. runs.inline es (has_value tree path holds) e
            (subst (λ l. FillsNames tree (path place) l r) same by)) told

      pub fills_single : (v : Value A) → ((vs : Vec (Value A) A) → v ≡ values.Array vs → ⊥)
          → ((es : Vec (Key A × Value A) A) → v ≡ values.Table es → ⊥) → (done : Unit {0})
          → FillsBy (λ t p r. Fills t p v r) slots place (Ok done) slots
      fills_single v no_array no_table done =
          fills_none (λ t p r. Fills t p v r) slots place (slice_get_within slots place s at)
          (λ tree path holds. runs.single no_array no_table) done
