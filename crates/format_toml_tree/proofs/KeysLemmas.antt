-- Statements over the names of a key, in sequence.
use Rattle.std.specs.Prelude.{IsErr, IsErrAnd, ◌≡◌, ℕ, ◌+◌, ◌<◌, ◌≤◌, List, [], ◌∷◌, length, drop}
use Rattle.std.specs.Prelude.{Err, Ok, Result, get_or, string_bytes}
use Rattle.std.specs.declared.string.String.{String}
use Rattle.std.proofs.Common.{refl, sym, ap, ◌∙◌, arith, length-drop}
use Rattle.format_toml_tree.specs.Paths.{Path}
use Rattle.format_toml_tree.specs.Rules.{Says}
use Rattle.format_toml_tree.specs.Runs.{State, Tree, say, say_key, then}
use Rattle.format_toml_tree.specs.Holds.{Goes, Holds, SlotResult}
use Rattle.format_toml_tree.specs.Calls.{goes_on}
use Rattle.format_toml_tree.specs.declared.roles.Reason.{Reason}
use Rattle.format_toml_tree.specs.declared.tree.Slot.{Slot}
use Rattle.format_toml_tree.specs.declared.tree.Stop.{Stop}
use Rattle.format_toml_tree.specs.declared.tree.Stop.TheVariants.{OutOfMemory, Invalid}
use Rattle.format_toml_tree.specs.Keys.{drop_here, drop_past}

-- what fails with a stop is this error
pub err_is : {X E : Type 0} (r : Result X E) (stop : E) → IsErr r × IsErrAnd r (λ e. e ≡ stop)
    → r ≡ Err stop
err_is (Ok x) stop is = let bad = is.0 in absurd (cc)
err_is (Err e) stop is = ap (λ x. Err x) is.1

then_ok : {X E : Type 0} (r : Result X E) → r ≡ then r (λ x. Ok x)
then_ok (Ok x) = refl
then_ok (Err e) = refl

module _ {A : Type 0} (before last : Says A) where
  -- one name, and then the others
  one_name : (s : State A) (name : String A) (names : List (String A)) (here : Says A)
      → ((0 < length names → here ≡ before) × (length names ≡ 0 → here ≡ last))
      → say_key before last s (name ∷ names)
      ≡ then (say here s (string_bytes name)) (λ t. say_key before last t names)
  one_name s name [] here is =
      ap (λ h. say h s (string_bytes name)) (sym (is.1 refl))
      ∙ then_ok (say here s (string_bytes name))
  one_name s name (next ∷ names) here is =
      ap (λ h. then (say h s (string_bytes name)) (λ t. say_key before last t (next ∷ names)))
      (sym (is.0 (omega arith)))

  -- The names from the `i`-th on remain, in a state that the slots hold.
  abbrev pub LeftToSay : List (Slot A) → ℕ → List (String A) → ℕ → ℕ → List (Slot A) → Type 0
  LeftToSay old table names i j new =
      (tree : Tree A) (path : ℕ → Path) → Holds old tree path → (s : State A)
      × (say_key before last (tree, path table) names ≡ say_key before last s (drop i names))
      × Goes old path s j new

  module _ (old : List (Slot A)) (table : ℕ) (names : List (String A)) (i j : ℕ)
      (mid : List (Slot A)) (left : LeftToSay old table names i j mid) (name : String A)
      (within : i < length names) (is : name ≡ get_or names i name) (here : Says A)
      (which : (i + 1 < length names → here ≡ before) × (length names ≤ i + 1 → here ≡ last))
    where
      role_here : (0 < length (drop (i + 1) names) → here ≡ before)
          × (length (drop (i + 1) names) ≡ 0 → here ≡ last)
      role_here =
          let count = length-drop (i + 1) names in (
            λ w. which.0 (omega (arith, count, w)),
            λ e. which.1 (omega (arith, count, e)),
          )

      abbrev rest : State A → Result (State A) Reason
      rest t = say_key before last t (drop (i + 1) names)

      next_name : (s : State A) → say_key before last s (drop i names)
          ≡ then (say here s (string_bytes name)) rest
      next_name s = ap (λ l. say_key before last s l) (drop_here names i name within is)
          ∙ one_name s name (drop (i + 1) names) here role_here

      pub said_more : (k : ℕ) (new : List (Slot A))
          → ((tree : Tree A) (path : ℕ → Path) → Holds mid tree path
          → SlotResult mid path (say here (tree, path j) (string_bytes name)) (Ok k) new)
          → LeftToSay old table names (i + 1) k new
      said_more k new said tree path holds =
          let (s, e, goes) = left tree path holds in
          let (t, f, next) = said s.0 goes.paths goes.holds in (
            t,
            e ∙ next_name s
                ∙ ap (λ p. then (say here (s.0, p) (string_bytes name)) rest) (sym goes.at)
                ∙ ap (λ r. then r rest) f,
            goes_on goes next,
          )

      pub said_refused : (stop : Stop) (new : List (Slot A))
          → ((tree : Tree A) (path : ℕ → Path) → Holds mid tree path
          → SlotResult mid path (say here (tree, path j) (string_bytes name)) (Err stop) new)
          → (tree : Tree A) (path : ℕ → Path) → Holds old tree path
          → SlotResult old path (say_key before last (tree, path table) names) (Err stop) new
      said_refused OutOfMemory new said tree path holds = tt
      said_refused (Invalid why) new said tree path holds =
          let (s, e, goes) = left tree path holds in
          e ∙ next_name s
          ∙ ap (λ p. then (say here (s.0, p) (string_bytes name)) rest) (sym goes.at)
          ∙ ap (λ r. then r rest) (said s.0 goes.paths goes.holds)

  pub all_said : (old : List (Slot A)) (table : ℕ) (names : List (String A)) (i j : ℕ)
      (new : List (Slot A)) → LeftToSay old table names i j new → length names ≤ i
      → (tree : Tree A) (path : ℕ → Path) → Holds old tree path
      → SlotResult old path (say_key before last (tree, path table) names) (Ok j) new
  all_said old table names i j new left past tree path holds =
      let (s, e, goes) = left tree path holds in
      (s, e ∙ ap (λ l. say_key before last s l) (drop_past names i past), goes)
