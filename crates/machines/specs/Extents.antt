-- Extents, and the result of a call.
use Rattle.std.specs.Prelude.{◌≡◌, ◌<◌, ◌+◌, ℕ, List, [], ◌∷◌, length, true, Option, Some, None}
use Rattle.std.specs.Prelude.{Result, Ok, Err}
use Rattle.machines.specs.Grammar.{HasEnded, Grammar, Reaches, Passes}
use Rattle.machines.specs.Languages.{HasNonEmpty}
use Rattle.machines.specs.declared.extent.Extent.{Extent}

-- `IsExtentOf g extent bytes`: the first `extent.passed` bytes lead from the start to the state.
pub record IsExtentOf {S : Type 0} (g : Grammar S) (extent : Extent S)
    (bytes : List ℕ) : Type 0 where
  pub left : List ℕ
  pub led : Reaches g g.start bytes extent.state left
  pub count : length led.front ≡ extent.passed

-- No longer word starts with the passed bytes and the next byte; at the end, with any byte.
abbrev pub IsFinal : {S : Type 0} → Grammar S → S → List ℕ → Type 0
IsFinal g at [] = HasEnded g at true
IsFinal g at (b ∷ left) = g.residual at []

-- the result in the state `at` after `n` bytes, if `left` remain
abbrev pub Reports : {S : Type 0} → Grammar S → S → ℕ → List ℕ → Result (Option ℕ) ℕ → Type 0
Reports g at n left (Ok (Some m)) = (m ≡ n) × IsFinal g at left
Reports g at n left (Ok None) = (left ≡ []) × HasNonEmpty (g.residual at)
Reports g at n left (Err m) = (m ≡ n) × (0 < length left) × (g.residual at [] → ⊥)

-- From one extent to the next, by the fresh bytes only.
pub record Continues {S : Type 0} (g : Grammar S) (old : Extent S) (fresh : List ℕ) (new : Extent S)
    (result : Result (Option ℕ) ℕ) : Type 0 where
  pub left : List ℕ
  pub walks : Passes g old.state fresh new.state left
  pub sum : new.passed ≡ old.passed + length walks.0.front
  pub says : Reports g new.state new.passed left result
