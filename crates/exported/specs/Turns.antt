-- Successive calls that search partial input, each with the state that the previous one left.
use Rattle.std.specs.Prelude.{◌≡◌, ◌++◌, ℕ, List, [], ◌∷◌}
use Rattle.std.specs.List.{flat_map}
use Rattle.exported.specs.Code.{incomplete}

-- the concatenation of chunks
abbrev pub all_of : List (List ℕ) → List ℕ
all_of pieces = flat_map (λ piece. piece) pieces

-- `CallsFrom is_of tells state bytes pieces last`: successive calls start from `state` and `bytes`,
-- each with one more chunk of `pieces`; all return `incomplete`, and the last one leaves `last`.
-- The result of a call is specified if its state is a state of its bytes.
unfoldable pub CallsFrom : {State Out : Type 0} → (State → List ℕ → Type 0)
    → (List ℕ → ℕ → Out → State → Type 0) → State → List ℕ → List (List ℕ) → State → Type 0
CallsFrom is_of tells state bytes [] last = state ≡ last
CallsFrom {State} {Out} is_of tells state bytes (piece ∷ pieces) last = (out : Out)
    × (next : State) × (is_of state (bytes ++ piece) → tells (bytes ++ piece) incomplete out next)
    × CallsFrom is_of tells next (bytes ++ piece) pieces last
