-- Sets in which membership is a function of the token, and streams that distinguish tokens.
use Rattle.std.specs.Prelude.{Bool, not, ◌≡◌, true, false}

-- what a set tells, for the tokens outside of it
abbrev pub Others : {X K : Type 0} → (X → K → Bool → Type 0) → X → K → Bool → Type 0
Others tells set k b = tells set k (not b)

-- `SetIsFunction tells`: no token is both a member and not a member.
abbrev pub SetIsFunction : {T : Type 0} → (T → Bool → Type 0) → Type 0
SetIsFunction {T} tells = (t : T) → tells t true → tells t false → ⊥

-- `TokenEqInjective seen`: tokens with the same view are the same.
abbrev pub TokenEqInjective : {K T : Type 0} → (K → T) → Type 0
TokenEqInjective {K} seen = (t u : K) → seen t ≡ seen u → t ≡ u
