-- What an outcome says: that there is an output, or the kind of an error.
use Rattle.std.specs.Prelude.{◌≡◌, ◌⊎◌, Bool, true, false, Option, ℕ, Err}
use Rattle.std.proofs.Common.{refl, subst, inl, inr}
use Rattle.streams.specs.Kind.{Kind, backtrack, cut, incomplete, memory}
use Rattle.stream_errors.specs.Form.{ErrorForm, assert_kind, incomplete_kind, modal, plain}
use Rattle.parser_definitions.specs.Left.{End, Left}
use Rattle.parser_definitions.specs.Outcome.{Outcome, asks, backs, cuts, lacks_by}
use Rattle.parser_definitions.specs.Outcome.{misused_by, outcome_of, took, wants}

-- the outcome is an error of this kind, which leaves `left`
abbrev pub IsError : {S T O : Type 0} → Kind → Left T → Outcome (End S T) O → Type 0
IsError k left (took o end) = ⊥
IsError k left (backs end) = (k ≡ backtrack) × (end.1 ≡ left)
IsError k left (cuts end) = (k ≡ cut) × (end.1 ≡ left)
IsError k left (asks need end) = (k ≡ incomplete need) × (end.1 ≡ left)
IsError k left wants = k ≡ memory

pub record FailsAt {S T O : Type 0} (k : Kind) (left : Left T) (x : Outcome (End S T) O) : Type 0
  where
    pub is : IsError k left x

-- one of these outcomes is an error
abbrev pub Failing : {S T O : Type 0} → (Outcome (End S T) O → Type 0) → Kind → Left T → Type 0
Failing {S} {T} {O} Child k left = (x : Outcome (End S T) O) × Child x × FailsAt k left x

-- the outcome of a call that returned an error
pub fails_at : {S T O : Type 0} (k : Kind) (end : End S T)
    → FailsAt k end.1 (outcome_of {O = O} (Err k) end)
fails_at backtrack end = record { is = (refl, refl) }
fails_at cut end = record { is = (refl, refl) }
fails_at (incomplete need) end = record { is = (refl, refl) }
fails_at memory end = record { is = refl }

pub fails_by : {S T O : Type 0} {k : Kind} {left : Left T} {x y : Outcome (End S T) O} → x ≡ y
    → FailsAt k left x → FailsAt k left y
fails_by {k = k} {left} e fails = subst (λ z. FailsAt k left z) e fails

pub same_took : {L O : Type 0} {o p : O} {a b : L} → ◌≡◌ {A = Outcome L O} (took o a) (took p b)
    → (o ≡ p) × (a ≡ b)
same_took e = (cc, cc)

-- tokens were missing
pub lacks_at : {S T O : Type 0} {k : Kind} {left : Left T} (form : ErrorForm) (more : Bool)
    (need : Option ℕ) (end : End S T) → FailsAt k left (lacks_by {O = O} form more need end)
    → (((more ≡ true) × (k ≡ incomplete_kind form need)) ⊎ ((more ≡ false) × (k ≡ backtrack)))
    × (end.1 ≡ left)
lacks_at modal true need end fails = (inl (refl, fails.is.0), fails.is.1)
lacks_at modal false need end fails = (inr (refl, fails.is.0), fails.is.1)
lacks_at plain true need end fails = (inl (refl, fails.is.0), fails.is.1)
lacks_at plain false need end fails = (inr (refl, fails.is.0), fails.is.1)

pub lacks_none : {P L O : Type 0} (form : ErrorForm) (more : Bool) (need : Option ℕ) (end place : L)
    (o : O) → took o place ≡ lacks_by form more need end → P
lacks_none modal true need end place o e = absurd (cc)
lacks_none modal false need end place o e = absurd (cc)
lacks_none plain more need end place o e = absurd (cc)

-- the parser was made or called wrongly
pub misused_at : {S T O : Type 0} {k : Kind} {left : Left T} (form : ErrorForm) (end : End S T)
    → FailsAt k left (misused_by {O = O} form end) → (k ≡ assert_kind form) × (end.1 ≡ left)
misused_at modal end fails = fails.is
misused_at plain end fails = fails.is

pub misused_none : {P L O : Type 0} (form : ErrorForm) (end place : L) (o : O)
    → took o place ≡ misused_by form end → P
misused_none modal end place o e = absurd (cc)
misused_none plain end place o e = absurd (cc)
