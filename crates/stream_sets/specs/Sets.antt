-- Sets of tokens.
use Rattle.std.specs.Prelude.{◌≡◌, ℕ, Bool, true, false, List, ◌⊎◌}
use Rattle.std.specs.List.{Contains}

-- One of the members is the character of this number.
abbrev pub HasCode : {C : Type 0} → (C → ℕ) → List C → ℕ → Type 0
HasCode {C} code members n = (c : C) × Contains members c × (code c ≡ n)

-- The first set has the token; or it does not, and the others decide.
abbrev pub InEither : {T : Type 0} → (T → Bool → Type 0) → (T → Bool → Type 0) → T → Bool
    → Type 0
InEither first others t b = (first t true × (b ≡ true)) ⊎ (first t false × others t b)
