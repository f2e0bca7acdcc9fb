-- An outcome whose rest or state is replaced.
use Rattle.std.specs.Prelude.{◌≡◌, ℕ, List, Option}
use Rattle.std.proofs.Common.{refl}
use Rattle.parser_definitions.specs.Left.{End, Left, extend}
use Rattle.parser_definitions.specs.Outcome.{Alike, IsFinal, Outcome, alike_wants, asks, backs}
use Rattle.parser_definitions.specs.Outcome.{by_alike, cuts, longer, took, wants}

-- The same outcome: an output leaves `there` of the rest, an error leaves `back` of it.
abbrev pub moved : {L M O : Type 0} → (L → M) → (L → M) → Outcome L O → Outcome M O
moved there back (took o left) = took o (there left)
moved there back (backs left) = backs (back left)
moved there back (cuts left) = cuts (back left)
moved there back (asks need left) = asks need (back left)
moved there back wants = wants

-- the same outcome with another state
abbrev pub in_state : {S Q T O : Type 0} → (S → Q) → Outcome (End S T) O → Outcome (End Q T) O
in_state {S} {Q} {T} put x = moved (λ e. (put e.0, e.1)) (λ e. (put e.0, e.1)) x

pub moved_alike : {L M O : Type 0} (alike : O → O → Type 0) (there back : L → M)
    (x y : Outcome L O) → Alike alike x y → Alike alike (moved there back x) (moved there back y)
moved_alike alike there back =
    by_alike {alike = alike} (λ x y. Alike alike (moved there back x) (moved there back y))
    (λ o p left is. (is, refl)) (λ left. refl) (λ left. refl) (λ need left. (refl, refl))
    (λ y. tt) (λ x. alike_wants alike (moved there back x))

pub moved_asks : {L M O : Type 0} (there back : L → M) (x : Outcome L O) (need : Option ℕ)
    (last : M) → asks need last ≡ moved there back x → (left : L) × (x ≡ asks need left)
moved_asks there back (took o left) need last e = absurd (cc)
moved_asks there back (backs left) need last e = absurd (cc)
moved_asks there back (cuts left) need last e = absurd (cc)
moved_asks there back (asks other left) need last e = (left, cc)
moved_asks there back wants need last e = absurd (cc)

pub moved_final : {L M O : Type 0} (there back : L → M) (x : Outcome L O)
    → IsFinal (moved there back x) → IsFinal x
moved_final there back (took o left) final = tt
moved_final there back (backs left) final = tt
moved_final there back (cuts left) final = tt
moved_final there back (asks need left) final = final
moved_final there back wants final = final

-- if more tokens follow what is left
pub moved_longer : {G Q T O : Type 0} (more : List T) (put : G → Q) (end start : Left T)
    (x : Outcome G O)
    → longer more (moved (λ g. (put g, end)) (λ g. (put g, start)) x)
    ≡ moved (λ g. (put g, extend more end)) (λ g. (put g, extend more start)) x
moved_longer more put end start (took o left) = refl
moved_longer more put end start (backs left) = refl
moved_longer more put end start (cuts left) = refl
moved_longer more put end start (asks need left) = refl
moved_longer more put end start wants = refl

pub state_longer : {S Q T O : Type 0} (more : List T) (put : S → Q) (x : Outcome (End S T) O)
    → longer more (in_state put x) ≡ in_state put (longer more x)
state_longer more put (took o left) = refl
state_longer more put (backs left) = refl
state_longer more put (cuts left) = refl
state_longer more put (asks need left) = refl
state_longer more put wants = refl
