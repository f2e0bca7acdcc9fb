-- The calls that a definition allows, and the runs that an outcome has.
use Rattle.std.specs.Prelude.{◌≡◌, Bool, Ok, Err}
use Rattle.std.proofs.Common.{refl, sym, subst, ap, ◌∙◌}
use Rattle.streams.specs.Input.{Input}
use Rattle.streams.specs.Kind.{backtrack, cut, incomplete, memory}
use Rattle.stream_errors.specs.Form.{Answer}
use Rattle.parser_definitions.specs.Left.{End, Left, left_of}
use Rattle.parser_definitions.specs.Outcome.{Outcome, Setting, asks, backs, cuts, outcome_of}
use Rattle.parser_definitions.specs.Outcome.{took, wants}
use Rattle.parser_definitions.specs.Then.{ComesOf}
use Rattle.parser_definitions.specs.Then.Steps.{hands_on}
pub mod Parts
pub mod Steps

-- ---- inputs of a setting

-- the input in this setting with this remaining
abbrev pub here : {T : Type 0} → Setting → Left T → Input T
here at w = record {
  left = record { tokens = w.tokens; place = w.place; possible = at.possible };
  status = record { cut = at.more; recorded = w.recorded };
}

pub is_here : {T : Type 0} (at : Setting) {i : Input T} → i.status.cut ≡ at.more
    → i.left.possible ≡ at.possible → i ≡ here at (left_of i)
is_here {T} at {i} more possible =
    let make : Bool → Bool → Input T = λ c p. record {
      left = record i.left { possible = p };
      status = record i.status { cut = c };
    } in
    ap (λ c. make c i.left.possible) more ∙ ap (λ p. make at.more p) possible

-- ---- runs of an outcome

-- A run with this outcome. Where it is out of memory, with any state and rest.
abbrev pub Came : {Q T O : Type 0} → Setting → (Answer O → Q → Input T → Type 0)
    → Outcome (End Q T) O → Type 0
Came at R (took o e) = R (Ok o) e.0 (here at e.1)
Came at R (backs e) = R (Err backtrack) e.0 (here at e.1)
Came at R (cuts e) = R (Err cut) e.0 (here at e.1)
Came at R (asks need e) = R (Err (incomplete need)) e.0 (here at e.1)
Came {Q} {T} at R wants = (e : End Q T) × R (Err memory) e.0 (here at e.1)

module _ {Q T O : Type 0} (at : Setting) (R : Answer O → Q → Input T → Type 0) where
  pub came_of : (a : Answer O) (e : End Q T) → R a e.0 (here at e.1) → Came at R (outcome_of a e)
  came_of (Ok o) e r = r
  came_of (Err backtrack) e r = r
  came_of (Err cut) e r = r
  came_of (Err (incomplete need)) e r = r
  came_of (Err memory) e r = (e, r)

  pub came_by : {y : Outcome (End Q T) O} (a : Answer O) (e : End Q T) → y ≡ outcome_of a e
      → R a e.0 (here at e.1) → Came at R y
  came_by a e is r = subst (λ y. Came at R y) (sym is) (came_of a e r)

-- of a part's outcome, for the state of the whole
pub came_in : {S Q T O : Type 0} (at : Setting) (put : Q → S → Q) (q : Q) (w : Left T)
    {R : Answer O → S → Input T → Type 0} (M : Answer O → Q → Input T → Type 0)
    → ((a : Answer O) (t : S) (j : Input T) → R a t j → M a (put q t) j)
    → (x : Outcome (End S T) O) (y : Outcome (End Q T) O) → Came at R x
    → ComesOf (hands_on put) at q w x y → Came at M y
came_in at put q w M f (took o e) y r is =
    came_by at M (Ok o) (put q e.0, e.1) is (f (Ok o) e.0 (here at e.1) r)
came_in at put q w M f (backs e) y r is =
    came_by at M (Err backtrack) (put q e.0, e.1) is (f (Err backtrack) e.0 (here at e.1) r)
came_in at put q w M f (cuts e) y r is =
    came_by at M (Err cut) (put q e.0, e.1) is (f (Err cut) e.0 (here at e.1) r)
came_in at put q w M f (asks need e) y r is =
    came_by at M (Err (incomplete need)) (put q e.0, e.1) is
    (f (Err (incomplete need)) e.0 (here at e.1) r)
came_in at put q w M f wants y (e, r) is =
    came_by at M (Err memory) (put q e.0, e.1) is (f (Err memory) e.0 (here at e.1) r)

-- a call with such an outcome is such a run, up to the state and the rest where memory runs out
pub came_run : {Q T O : Type 0} (at : Setting) (R : Answer O → Q → Input T → Type 0)
    (a : Answer O) (t : Q) (j : Input T) → j.status.cut ≡ at.more → j.left.possible ≡ at.possible
    → Came at R (outcome_of a (t, left_of j))
    → (u : Q) × (k : Input T) × R a u k × ((a ≡ Err memory → ⊥) → (u ≡ t) × (k ≡ j))
came_run {Q} {T} {O} at R a t j more possible came = by a came
  where
    by : (a : Answer O) → Came at R (outcome_of a (t, left_of j))
        → (u : Q) × (k : Input T) × R a u k × ((a ≡ Err memory → ⊥) → (u ≡ t) × (k ≡ j))
    by (Ok o) r = (t, here at (left_of j), r, λ _. (refl, sym (is_here at more possible)))
    by (Err backtrack) r = (t, here at (left_of j), r, λ _. (refl, sym (is_here at more possible)))
    by (Err cut) r = (t, here at (left_of j), r, λ _. (refl, sym (is_here at more possible)))
    by (Err (incomplete need)) r =
        (t, here at (left_of j), r, λ _. (refl, sym (is_here at more possible)))
    by (Err memory) (e, r) = (e.0, here at e.1, r, λ other. absurd (other refl))
