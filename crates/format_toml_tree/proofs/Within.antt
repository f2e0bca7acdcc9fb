-- The tree after a line is as deep as its slots are.
use Rattle.std.specs.Prelude.{◌≡◌, ℕ, ◌+◌, ◌<◌, ◌≤◌, List, length, slice_get, true, false, Ok, Err}
use Rattle.std.specs.Prelude.{Some}
use Rattle.std.proofs.Common.{sym, ap, subst, inl, inr, ◌∙◌, arith}
use Rattle.std.proofs.lemmas.Bool.{cases_lt}
use Rattle.format_toml_tree.proofs.Reached.{reach}
use Rattle.format_toml_tree.specs.Added.{get_once, some_there}
use Rattle.format_toml_tree.specs.Holds.{AddsItem, AddsLine, Contains, FitResult, Goes, Holds}
use Rattle.format_toml_tree.specs.Holds.{node_of}
use Rattle.format_toml_tree.specs.Paths.{Path}
use Rattle.format_toml_tree.specs.Rules.{IsContainer, nothing}
use Rattle.format_toml_tree.specs.Runs.{IsWithin, State, Tree}
use Rattle.format_toml_tree.specs.Runs as runs
use Rattle.format_toml_tree.specs.declared.roles.Reason.TheVariants.{TooDeep}
use Rattle.format_toml_tree.specs.declared.tree.Kind.{Kind}
use Rattle.format_toml_tree.specs.declared.tree.Kind.TheVariants as kinds
use Rattle.format_toml_tree.specs.declared.tree.Slot.{Slot}
use Rattle.format_toml_tree.specs.declared.tree.Stop.{Stop}
use Rattle.format_toml_tree.specs.declared.tree.Stop.TheVariants.{OutOfMemory, Invalid}
use Rattle.format_toml_tree.specs.declared.value.Item.{Item}

module _ {A : Type 0} where
  -- the number of elements does not matter
  any_count : (k : Kind A) (m n : ℕ) → IsContainer (node_of k m) → IsContainer (node_of k n)
  any_count (kinds.Value v) m n has = has
  any_count kinds.Super m n has = has
  any_count kinds.Header m n has = has
  any_count kinds.Dotted m n has = has
  any_count kinds.Tables m n has = has

  at_slot : {slots : List (Slot A)} {tree : Tree A} {path : ℕ → Path} → Holds slots tree path
      → (i : ℕ) (s : Slot A) → slice_get slots i ≡ Some s → IsContainer (tree (path i))
      → Contains s.kind
  at_slot holds i s g has =
      any_count s.kind (length s.elements.items) 0
      (subst (λ n. IsContainer n) (holds.there i s g) has)

  has_slot : {slots : List (Slot A)} {tree : Tree A} {path : ℕ → Path} → Holds slots tree path
      → (i : ℕ) (s : Slot A) → slice_get slots i ≡ Some s → Contains s.kind
      → IsContainer (tree (path i))
  has_slot holds i s g has =
      subst (λ n. IsContainer n) (sym (holds.there i s g))
      (any_count s.kind 0 (length s.elements.items) has)

  -- the slots from `from` to before `k` fit
  abbrev pub Fitting : ℕ → List (Slot A) → ℕ → ℕ → Type 0
  Fitting level slots from k = (i : ℕ) (s : Slot A) → from ≤ i → i < k → slice_get slots i ≡ Some s
      → Contains s.kind → s.depth ≤ level

  pub fitting_more : (level : ℕ) (slots : List (Slot A)) (from k : ℕ) (slot : Slot A)
      → Fitting level slots from k → slice_get slots k ≡ Some slot
      → (Contains slot.kind → slot.depth ≤ level) → Fitting level slots from (k + 1)
  fitting_more level slots from k slot fit at most i s past before g has =
      elim (cases_lt i k) [
        | inl less ↦ fit i s past less g has
        | inr more ↦
            let same : i ≡ k = omega (arith, more, before) in
            let is : slot ≡ s = get_once (slice_get slots k) at
            (ap (λ n. slice_get slots n) (sym same) ∙ g) in
            subst (λ x. x.depth ≤ level) is (most (subst (λ x. Contains x.kind) (sym is) has))
      ]

  module _ {old new : List (Slot A)} {tree : Tree A} {path : ℕ → Path} {s : State A} {j : ℕ}
      (level from : ℕ) (holds : Holds old tree path) (goes : Goes old path s j new)
      (count : from ≡ length old) where
    pub fits_within : IsWithin level tree → FitResult level new from true → IsWithin level s.0
    fits_within within fits p has = elim (reach goes.holds (omega (arith, goes.within)) p) [
      | inl none ↦ absurd (nothing_in none)
      | inr (i, w, at) ↦
          let (t, g) = some_there new i w in
          let here = subst (λ q. IsContainer (s.0 q)) (sym at) has in
          let is : Contains t.kind = at_slot goes.holds i t g here in
          let depth = (goes.holds.depth i t g).0 in
          let size : length (goes.paths i) ≡ length p = ap (λ q. length q) at in
          elim (cases_lt i from) [
            | inl before ↦
                let old_there : i < length old = omega (arith, before, count) in
                let (u, h) = some_there old i old_there in
                let most : length (path i) ≤ level =
                within (path i) (has_slot holds i u h (goes.contains i u t h g is)) in
                let same : length (goes.paths i) ≡ length (path i) =
                ap (λ q. length q) (goes.kept i old_there) in
                omega (arith, most, same, size)
            | inr past ↦
                let most = fits i t past g is in
                omega (arith, most, depth, size)
          ]
    ]
      where
        nothing_in : s.0 p ≡ nothing → ⊥
        nothing_in none =
            elim (subst (λ n. IsContainer n) none has) [ inl f ↦ f | inr f ↦ f ]

    pub fits_not : FitResult level new from false → IsWithin level s.0 → ⊥
    fits_not (i, t, g, has, over) within =
        let most = within (goes.paths i) (has_slot goes.holds i t g has) in
        omega (arith, most, over, (goes.holds.depth i t g).0)

  module _ (level from : ℕ) (old : List (Slot A)) (table : ℕ) (item : Item A)
      (new : List (Slot A)) (count : from ≡ length old) where
    pub line_added : (j : ℕ) → AddsItem old table item (Ok j) new
        → FitResult level new from true → AddsLine level old table item (Ok j) new
    line_added j added fits tree path holds within =
        let (s, ran, goes) = added tree path holds in
        let is = fits_within level from holds goes count within fits in
        (s, runs.allowed ran is, is, goes)

    pub line_deep : (j : ℕ) → AddsItem old table item (Ok j) new
        → FitResult level new from false
        → AddsLine level old table item (Err (Invalid TooDeep)) new
    line_deep j added deep tree path holds =
        let (s, ran, goes) = added tree path holds in
        runs.too_deep s ran (fits_not level from holds goes count deep)

    pub line_stopped : (stop : Stop) → AddsItem old table item (Err stop) new
        → AddsLine level old table item (Err stop) new
    line_stopped OutOfMemory added = tt
    line_stopped (Invalid why) added = λ tree path holds. runs.invalid (added tree path holds)
