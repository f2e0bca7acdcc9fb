-- Which outputs of combinators are equal.
use Rattle.std.specs.Prelude.{◌≡◌, ◌⊎◌, ⊤, Option, Some, None}

-- Both are `None`, or both are `Some` of equal outputs.
abbrev pub AlikeOptions : {O : Type 0} → (O → O → Type 0) → Option O → Option O → Type 0
AlikeOptions alike None None = ⊤
AlikeOptions alike None (Some p) = ⊥
AlikeOptions alike (Some o) None = ⊥
AlikeOptions alike (Some o) (Some p) = alike o p

-- Both components are equal.
abbrev pub AlikePairs : {A B : Type 0} → (A → A → Type 0) → (B → B → Type 0) → A × B → A × B
    → Type 0
AlikePairs first second x y = first x.0 y.0 × second x.1 y.1

-- They are equal by one of two relations.
abbrev pub AlikeEither : {O : Type 0} → (O → O → Type 0) → (O → O → Type 0) → O → O → Type 0
AlikeEither one two o p = one o p ⊎ two o p

-- Both are computed from equal outputs, by a closure in one state.
abbrev pub MadeAlike : {G O U : Type 0} → (O → O → Type 0) → (G → O → U → G → Type 0) → U → U
    → Type 0
MadeAlike {G} {O} alike step u v =
    (f : G) × (o : O) × (p : O) × (g : G) × (h : G) × alike o p × step f o u g × step f p v h

-- For equal outputs in one state a closure has one next state.
abbrev pub StepsAlike : {G O U : Type 0} → (O → O → Type 0) → (G → O → U → G → Type 0) → Type 0
StepsAlike {G} {O} {U} alike step =
    (f : G) (o p : O) (u v : U) (g h : G) → alike o p → step f o u g → step f p v h → g ≡ h
