-- Closures that each call leaves as they were, and what they give.
use Rattle.std.specs.Prelude.{◌≡◌, Bool, true, false, Option, Some, None}

-- No call changes the closure.
abbrev pub Stays : {G O U : Type 0} → (G → O → U → G → Type 0) → G → Type 0
Stays {G} {O} {U} step f = (o : O) (u : U) (h : G) → step f o u h → h ≡ f

-- what a closure that stays gives
abbrev pub Gives : {G O U : Type 0} → (G → O → U → G → Type 0) → G → O → U → Type 0
Gives step f o u = step f o u f

-- ---- a test

-- it finds an output true, which stays
abbrev pub Finds : {G O : Type 0} → (G → O → Bool → G → Type 0) → G → O → O → Type 0
Finds tests f o u = tests f o true f × (u ≡ o)

-- it finds it false
abbrev pub Misses : {G O : Type 0} → (G → O → Bool → G → Type 0) → G → O → Type 0
Misses tests f o = tests f o false f

-- ---- a closure that may return `None`

-- it gives an output
abbrev pub GivesSome : {G O U : Type 0} → (G → O → Option U → G → Type 0) → G → O → U → Type 0
GivesSome step f o u = step f o (Some u) f

-- it returns `None`
abbrev pub GivesNone : {G O U : Type 0} → (G → O → Option U → G → Type 0) → G → O → Type 0
GivesNone step f o = step f o None f
