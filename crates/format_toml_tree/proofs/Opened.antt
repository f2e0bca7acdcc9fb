-- The effect of a statement on a name, over slots.
use Rattle.std.specs.Prelude.{◌≡◌, ℕ, zero, suc, ◌+◌, ◌<◌, List, ◌∷◌, length, set, slice_get, Err}
use Rattle.std.specs.Prelude.{None, Ok, Result, Some}
use Rattle.std.proofs.Common.{refl, sym, ap, subst, inl, inr, ◌∙◌, arith}
use Rattle.std.proofs.lemmas.List.{length-set}
use Rattle.std.proofs.lemmas.Option.{slice_get_within}
use Rattle.format_toml_tree.specs.Paths.{Path, named, placed, put, put_here}
use Rattle.format_toml_tree.specs.Rules.{Node, Says, adds, defines, dots, gives, nothing, passes}
use Rattle.format_toml_tree.specs.Rules.{ruled}
use Rattle.format_toml_tree.specs.Runs.{State, Tree, entered, grown, opened, say, then}
use Rattle.format_toml_tree.specs.Holds.{Contains, Goes, Holds, IsInside, SlotResult, find}
use Rattle.format_toml_tree.specs.Holds.{node_at, node_of, says_of}
use Rattle.format_toml_tree.specs.Added.{get_once}
use Rattle.format_toml_tree.specs.Places.{altered, get_set}
use Rattle.format_toml_tree.specs.Calls.{goes_on, stays}
use Rattle.format_toml_tree.specs.declared.roles.Reason.{Reason}
use Rattle.format_toml_tree.specs.declared.roles.Role.{Role}
use Rattle.format_toml_tree.specs.declared.roles.Role.TheVariants as roles
use Rattle.format_toml_tree.specs.declared.tree.Kind.{Kind}
use Rattle.format_toml_tree.specs.declared.tree.Kind.TheVariants as kinds
use Rattle.format_toml_tree.specs.declared.tree.Slot.{Slot}
use Rattle.format_toml_tree.specs.declared.tree.Stop.{Stop}
use Rattle.format_toml_tree.specs.declared.tree.Stop.TheVariants.{OutOfMemory, Invalid}

never : {X E : Type 0} {e : E} {x : X} → Err e ≡ Ok x → ⊥
never e = cc

module _ {A : Type 0} where
  -- ---- where the next name is

  module _ {slots : List (Slot A)} {tree : Tree A} {path : ℕ → Path} (holds : Holds slots tree path)
      (place : ℕ) (s : Slot A) (at : slice_get slots place ≡ Some s) where
    within : place < length slots
    within = slice_get_within slots place s at

    abbrev GoesTo : ℕ → State A → Type 0
    GoesTo j t = Goes slots path t j slots

    there : {j : ℕ} → j ≡ place → GoesTo j (tree, path place)
    there e = subst (λ i. GoesTo i (tree, path place)) (sym e) (stays place holds within)

    enters : (k : Kind A) (n : ℕ) (j : ℕ) → IsInside (node_of k n) s.elements.items place j
        → GoesTo j (entered (node_of k n) tree (path place))
    enters (kinds.Value v) n j is = there is
    enters kinds.Super n j is = there is
    enters kinds.Header n j is = there is
    enters kinds.Dotted n j is = there is
    enters kinds.Tables zero j is = there is
    enters kinds.Tables (suc n) j is =
        let (w, e) = holds.elements place s at n j is in
        subst (λ p. GoesTo j (tree, p)) e (stays j holds w)

    others_enter : (role : Role A) → (role ≡ roles.Tables → ⊥) → (node : Node A)
        → opened (says_of role) node tree (path place) ≡ entered node tree (path place)
    others_enter roles.Through apart node = refl
    others_enter roles.Header apart node = refl
    others_enter roles.Tables apart node = absurd (apart refl)
    others_enter roles.Dotted apart node = refl
    others_enter (roles.Value v) apart node = refl

    pub opens_inside : (role : Role A) → (role ≡ roles.Tables → ⊥) → (j : ℕ)
        → IsInside (node_at s) s.elements.items place j
        → GoesTo j (opened (says_of role) (tree (path place)) tree (path place))
    opens_inside role apart j is =
        subst (λ t. GoesTo j t)
        (sym (others_enter role apart (tree (path place))
        ∙ ap (λ node. entered node tree (path place)) (holds.there place s at)))
        (enters s.kind (length s.elements.items) j is)

    grows_none : (k : Kind A) (n : ℕ) → (k ≡ kinds.Tables → ⊥)
        → grown (node_of k n) tree (path place) ≡ (tree, path place)
    grows_none (kinds.Value v) n apart = refl
    grows_none kinds.Super n apart = refl
    grows_none kinds.Header n apart = refl
    grows_none kinds.Dotted n apart = refl
    grows_none kinds.Tables n apart = absurd (apart refl)

    pub opens_none : (role : Role A) → role ≡ roles.Tables → (s.kind ≡ kinds.Tables → ⊥)
        → GoesTo place (opened (says_of role) (tree (path place)) tree (path place))
    opens_none role is apart =
        subst (λ t. GoesTo place t)
        (sym (ap (λ r. opened (says_of r) (tree (path place)) tree (path place)) is
        ∙ ap (λ node. grown node tree (path place)) (holds.there place s at)
        ∙ grows_none s.kind (length s.elements.items) apart))
        (stays place holds within)

    pub opens_new : (role : Role A) (j : ℕ) (new : List (Slot A)) → role ≡ roles.Tables
        → s.kind ≡ kinds.Tables
        → Goes slots path (
          put (put tree (path place) (node_of s.kind (length s.elements.items + 1)))
              (placed (length s.elements.items) ∷ path place) (node_of kinds.Header 0),
          placed (length s.elements.items) ∷ path place,
        ) j new
        → Goes slots path (opened (says_of role) (tree (path place)) tree (path place)) j new
    opens_new role j new is kind goes =
        let n = length s.elements.items in
        subst (λ t. Goes slots path t j new)
        (ap (λ k. (
          put (put tree (path place) (node_of k (n + 1)))
              (placed n ∷ path place) (node_of kinds.Header 0),
          placed n ∷ path place,
        )) kind
        ∙ ap (λ k. grown (node_of k n) tree (path place)) (sym kind)
        ∙ ap (λ node. grown node tree (path place)) (sym (holds.there place s at))
        ∙ ap (λ r. opened (says_of r) (tree (path place)) tree (path place)) (sym is)) goes

  -- ---- what there is at a name

  -- a statement makes no table or array of another value
  contained : (says : Says A) (was kind : Kind A)
      → ((n : ℕ) → ruled says (node_of was n) ≡ Ok (node_of kind n))
      → Contains kind → Contains was
  contained passes (kinds.Value v) kind rule has = absurd (never (rule 0))
  contained defines (kinds.Value v) kind rule has = absurd (never (rule 0))
  contained adds (kinds.Value v) kind rule has = absurd (never (rule 0))
  contained dots (kinds.Value v) kind rule has = absurd (never (rule 0))
  contained (gives w) (kinds.Value v) kind rule has = absurd (never (rule 0))
  contained says kinds.Super kind rule has = inl tt
  contained says kinds.Header kind rule has = inl tt
  contained says kinds.Dotted kind rule has = inl tt
  contained says kinds.Tables kind rule has = inr tt

  module _ {slots : List (Slot A)} {tree : Tree A} {path : ℕ → Path} (holds : Holds slots tree path)
      (table : ℕ) (above : Slot A) (at : slice_get slots table ≡ Some above) (name : List ℕ)
      (says : Says A) where
    abbrev q : Path
    q = named name ∷ path table

    abbrev IsSet : ℕ → List (Slot A) → Type 0
    IsSet j new = (node : Node A) × (ruled says (tree q) ≡ Ok node)
        × Goes slots path (put tree q node, q) j new

    module _ (place : ℕ) (found : find above.places name ≡ Some place) (was : Slot A)
        (is : slice_get slots place ≡ Some was) where
      here : path place ≡ q
      here = (holds.found table above at name place found).1

      tree_here : tree q ≡ node_at was
      tree_here = ap tree (sym here) ∙ holds.there place was is

      pub set_found : (kind : Kind A)
          → ((n : ℕ) → ruled says (node_of was.kind n) ≡ Ok (node_of kind n))
          → IsSet place (set slots place (record {
            kind = kind;
            depth = was.depth;
            name = was.name;
            places = was.places;
            entries = was.entries;
            elements = was.elements;
          }))
      set_found kind rule =
          let n : ℕ = length was.elements.items in
          let now : Slot A = record {
            kind = kind;
            depth = was.depth;
            name = was.name;
            places = was.places;
            entries = was.entries;
            elements = was.elements;
          } in
          let count : length (set slots place now) ≡ length slots = length-set slots place now in
          let inside : place < length slots = slice_get_within slots place was is in (
            node_of kind n,
            ap (λ node. ruled says node) tree_here ∙ rule n,
            subst (λ p. Goes slots path (put tree p (node_of kind n), p) place
                (set slots place now)) here
                (record {
                  paths = path;
                  holds = altered holds place was now is refl refl refl refl refl;
                  within = omega (arith, count, inside);
                  at = refl;
                  kept = λ i w. refl;
                  grown = omega (arith, count);
                  contains = λ i s t g h has. elim (get_set slots place now t i h) [
                    | inl (a, b) ↦
                        let same : was ≡ s = get_once (slice_get slots place) is
                        (ap (λ k. slice_get slots k) (sym a) ∙ g) in
                        subst (λ x. Contains x.kind) same (contained says was.kind kind rule
                        (subst (λ x. Contains x.kind) b has))
                    | inr (a, b) ↦
                        subst (λ x. Contains x.kind) (get_once (slice_get slots i) b g) has
                  ];
                }),
          )

      pub set_refused : (why : Reason)
          → ((n : ℕ) → ruled says (node_of was.kind n) ≡ Err why)
          → ruled says (tree q) ≡ Err why
      set_refused why rule =
          ap (λ node. ruled says node) tree_here ∙ rule (length was.elements.items)

    pub set_new : find above.places name ≡ None → (kind : Kind A) (j : ℕ) (new : List (Slot A))
        → ruled says nothing ≡ Ok (node_of kind 0)
        → (tree q ≡ nothing → Goes slots path (put tree q (node_of kind 0), q) j new)
        → IsSet j new
    set_new missing kind j new rule goes =
        let none = holds.missing table above at name missing in
        (node_of kind 0, ap (λ node. ruled says node) none ∙ rule, goes none)

  -- ---- a name

  pub told_stop : (old new : List (Slot A)) (path : ℕ → Path) (r : Result (State A) Reason)
      (stop : Stop) → ((why : Reason) → stop ≡ Invalid why → r ≡ Err why)
      → SlotResult old path r (Err stop) new
  told_stop old new path r OutOfMemory is = tt
  told_stop old new path r (Invalid why) is = is why refl

  pub say_refused : (says : Says A) (s : State A) (name : List ℕ) (why : Reason)
      → ruled says (s.0 (named name ∷ s.1)) ≡ Err why → say says s name ≡ Err why
  say_refused says s name why e = ap (λ r. then r (λ node. Ok
      (opened says node (put s.0 (named name ∷ s.1) node) (named name ∷ s.1)))) e

  pub say_done : {old mid : List (Slot A)} {tree : Tree A} {path : ℕ → Path} (table : ℕ)
      (name : List ℕ) (says : Says A) (place j : ℕ) (new : List (Slot A)) (node : Node A)
      → ruled says (tree (named name ∷ path table)) ≡ Ok node
      → (goes : Goes old path
      (put tree (named name ∷ path table) node, named name ∷ path table) place mid)
      → Goes mid goes.paths
      (opened says (put tree (named name ∷ path table) node (goes.paths place))
      (put tree (named name ∷ path table) node) (goes.paths place)) j new
      → SlotResult old path (say says (tree, path table) name) (Ok j) new
  say_done {mid = mid} {tree = tree} {path = path} table name says place j new node rule goes next =
      let q : Path = named name ∷ path table in
      let then_tree : Tree A = put tree q node in (
        opened says node then_tree q,
        ap (λ r. then r (λ n. Ok (opened says n (put tree q n) q))) rule,
        goes_on goes (subst (λ t. Goes mid goes.paths t j new)
            (ap (λ p. opened says (then_tree p) then_tree p) goes.at
            ∙ ap (λ n. opened says n then_tree q) (put_here tree q node q refl)) next),
      )
