-- The items of an iterator, and what ends them.
use Rattle.std.specs.Prelude.{◌≡◌, List, [], ◌∷◌, ◌++◌, Option, Ok, Err, MatchOption, ◌⊎◌}
use Rattle.std.specs.List.{FoldsTo}
use Rattle.winnow.specs.Chain.{IsItem}
use Rattle.winnow.specs.Input.{Input, back_at}
use Rattle.winnow.specs.Kind.{Kind, backtrack}
use Rattle.winnow.specs.Runs.{Runs}

-- The last of the outputs, or none where there are none.
abbrev pub IsLastOf : {O : Type 0} → List O → Option O → Type 0
IsLastOf {O} outputs last =
    MatchOption last (outputs ≡ []) (λ o. (before : List O) × (outputs ≡ before ++ o ∷ []))

-- Calls that succeed and consume, each where the one before it ended, and their outputs in order.
abbrev pub Items : {S T O : Type 0} → Runs S T O → S → Input T → List O → S → Input T → Type 0
Items run s i outputs u m = FoldsTo (λ p o q. IsItem run p o q) (s, i) outputs (u, m)

-- The outputs are those of a chain of runs that consume, after which one backtracks: the input is
-- left where that one began.
pub record EndsAfterChain {S T O : Type 0} (run : Runs S T O) (s : S) (i : Input T)
    (outputs : List O) (j : Input T) : Type 0 where
  pub state : S
  pub input : Input T
  pub chain : Items run s i outputs state input
  pub last : S
  pub tried : Input T
  pub backtracks : run state input (Err backtrack) last tried
  pub back : j ≡ back_at input.left tried

-- The outputs are those of such a chain, and the run after it fails by this kind, or consumes
-- nothing, which is the assert error; the input is left where that one left it.
pub record FailsAfterChain {S T O : Type 0} (run : Runs S T O) (assert_kind : Kind) (s : S)
    (i : Input T) (outputs : List O) (k : Kind) (j : Input T) : Type 0 where
  pub state : S
  pub input : Input T
  pub chain : Items run s i outputs state input
  pub last : S
  pub fails : (run state input (Err k) last j × (k ≡ backtrack → ⊥))
      ⊎ ((o : O) × run state input (Ok o) last j × (j.left.tokens ≡ input.left.tokens)
      × (k ≡ assert_kind))
