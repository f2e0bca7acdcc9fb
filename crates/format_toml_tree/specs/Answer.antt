-- The relation between the result and the tree that the lines of a document give.
use Rattle.std.specs.Prelude.{◌≡◌, ℕ, List, [], Result, Ok, Err}
use Rattle.std.proofs.Common.{refl, subst}
use Rattle.format_toml_tree.specs.Runs.{Gives, empty, Tree as Given}
use Rattle.format_toml_tree.specs.Holds.{HoldsTree}
use Rattle.format_toml_tree.specs.Once.{gives_once}
use Rattle.format_toml_tree.specs.declared.build.TreeError.{TreeError}
use Rattle.format_toml_tree.specs.declared.build.TreeError.TheVariants.{OutOfMemory, Invalid}
use Rattle.format_toml_tree.specs.declared.roles.Reason.{Reason}
use Rattle.format_toml_tree.specs.declared.tree.Tree.{Tree}
use Rattle.format_toml_tree.specs.declared.value.Item.{Item}

module _ {A : Type 0} where
  -- Unless an allocation fails: a tree that holds the given one, or the first line that is
  -- rejected, and why.
  abbrev pub IsAnswer : Result (Tree A) TreeError → Result (Given A) (ℕ × Reason) → Type 0
  IsAnswer (Ok tree) (Ok given) = HoldsTree tree.slots.items given
  IsAnswer (Ok tree) (Err e) = ⊥
  IsAnswer (Err OutOfMemory) (Ok given) = Unit {0}
  IsAnswer (Err OutOfMemory) (Err e) = Unit {0}
  IsAnswer (Err (Invalid line why)) (Ok given) = ⊥
  IsAnswer (Err (Invalid line why)) (Err e) = e ≡ (line, why)

  -- for every outcome of the lines
  abbrev pub Answers : ℕ → List (Item A) → Result (Tree A) TreeError → Type 0
  Answers level lines result = (outcome : Result (Given A) (ℕ × Reason))
      → Gives level (empty, []) 0 lines outcome → IsAnswer result outcome

  pub answers_tree : (level : ℕ) (lines : List (Item A)) (tree : Tree A) (given : Given A)
      → Gives level (empty, []) 0 lines (Ok given) → HoldsTree tree.slots.items given
      → Answers level lines (Ok tree)
  answers_tree level lines tree given gives holds outcome other =
      subst (λ o. IsAnswer (Ok tree) o) (gives_once gives other) holds

  pub no_memory : (outcome : Result (Given A) (ℕ × Reason)) → IsAnswer (Err OutOfMemory) outcome
  no_memory (Ok given) = tt
  no_memory (Err e) = tt

  pub answers_fault : (level : ℕ) (lines : List (Item A)) (fault : TreeError)
      → ((line : ℕ) (why : Reason) → fault ≡ Invalid line why
      → Gives level (empty, []) 0 lines (Err (line, why))) → Answers level lines (Err fault)
  answers_fault level lines OutOfMemory gives outcome other = no_memory outcome
  answers_fault level lines (Invalid line why) gives outcome other =
      subst (λ o. IsAnswer (Err (Invalid line why)) o) (gives_once (gives line why refl) other) refl
