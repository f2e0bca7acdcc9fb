-- A byte, with which a closure is called, and another byte.
use Rattle.std.specs.Prelude.{◌≡◌, ◌⊎◌, ⊤, ℕ, List, [], ◌∷◌, Ok, Err}
use Rattle.winnow.specs.Form.{Answer}

-- For one byte in one state a closure has one output and one next state.
abbrev pub StepsOnce : {G U : Type 0} → (G → ℕ → U → G → Type 0) → Type 0
StepsOnce {G} {U} step = (f : G) (k : ℕ) (u v : U) (g h : G) → step f k u g → step f k v h
    → (u ≡ v) × (g ≡ h)

-- The result of a call, and the closure's new state: the input has two bytes, and the closure is
-- called with the first; or it is empty; or it has one byte, with which the closure is called.
abbrev pub ReadsMarks : {G : Type 0} → (G → ℕ → ℕ → G → Type 0) → G → List ℕ → Answer (ℕ × ℕ)
    → G → List ℕ → Type 0
ReadsMarks step f tokens (Ok o) g rest =
    (b : ℕ) × (tokens ≡ b ∷ o.1 ∷ rest) × step f b o.0 g
ReadsMarks step f tokens (Err k) g rest = ((tokens ≡ []) × (g ≡ f) × (rest ≡ []))
    ⊎ ((b : ℕ) × (u : ℕ) × (tokens ≡ b ∷ []) × step f b u g × (rest ≡ []))

-- An output is that one byte was counted, and the second byte.
abbrev pub CountsOne : List ℕ → Answer (ℕ × ℕ) → List ℕ → Type 0
CountsOne tokens (Ok o) rest = (b : ℕ) × (o.0 ≡ 1) × (tokens ≡ b ∷ o.1 ∷ rest)
CountsOne tokens (Err k) rest = ⊤
