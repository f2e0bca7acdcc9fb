-- The call of a recovering parser after an error.
use Rattle.std.specs.Prelude.{◌≡◌, ◌⊎◌, ◌<◌, ⊤, ℕ, Bool, IsTrue, true, List, [], ◌∷◌, ◌++◌, length}
use Rattle.std.specs.Prelude.{Option, Err}
use Rattle.std.proofs.Common.{refl, ap, ◌∙◌, inl, inr, arith, length-append}
use Rattle.streams.specs.Kind.{Kind, backtrack, cut, incomplete, memory}
use Rattle.parser_definitions.specs.Does.{Lawful}
use Rattle.parser_definitions.specs.Errors.{error_longer}
use Rattle.parser_definitions.specs.Left.{End, Left, back, extend}
use Rattle.parser_definitions.specs.MapErr.{CompleteErrDoes, complete_err_law, completes}
use Rattle.parser_definitions.specs.Outcome.{Alike, Does, IsFinal, Outcome, alike_wants, as_longer}
use Rattle.parser_definitions.specs.Outcome.{asks, backs, both, cuts, final_by, grown, longer}
use Rattle.parser_definitions.specs.Outcome.{on_cut, outcome_of, took, wants}
use Rattle.parser_definitions.specs.Then.{Comes, ComesOf, Holds, Meets, Next, NextHolds, NextMeets}
use Rattle.parser_definitions.specs.Then.Steps.{asks_later, asks_meet, asks_on, second, then_holds}
use Rattle.parser_definitions.specs.Then.Steps.{then_meets, then_next, with_first, with_second}

-- Whether a stream records errors, and whether an error may be out of memory after recovery failed.
pub record Recovery : Type 0 where
  pub recovers : Bool
  pub grows : Bool

-- with an error recorded
abbrev pub record_error : {T : Type 0} → Left T → Kind → Left T
record_error left k = record left { recorded = left.recorded ++ k ∷ [] }

-- A parser can recover from an error that backtracks or cuts.
abbrev pub CanRecover : Kind → Type 0
CanRecover backtrack = ⊤
CanRecover cut = ⊤
CanRecover (incomplete need) = ⊥
CanRecover memory = ⊥

module _ {S W T U : Type 0} (must_consume grows : Bool) where
  -- The error is returned where it arose, with the errors that the recovering parser recorded; or
  -- there is no memory for it.
  abbrev pub not_recovered : Kind → Comes W (S × W) T U
  not_recovered k at q w end y = (y ≡ outcome_of (Err k) ((q.0, end.0), back w end.1))
      ⊎ (IsTrue grows × (y ≡ wants))

  -- If it consumes tokens, or need not, it recovers; or there is no memory to record the error.
  -- If it consumes none although it must, or fails, it does not recover.
  abbrev pub recovery : Comes W (S × W) T U → Kind → Next W (S × W) T ⊤ U
  recovery resumed k = record {
    on_took = λ o at q w end y.
        ((must_consume ≡ true → length end.1.tokens < length w.tokens)
        × (resumed at q w end y ⊎ (y ≡ wants)))
        ⊎ ((must_consume ≡ true) × (end.1.tokens ≡ w.tokens) × not_recovered k at q w end y);
    on_backs = not_recovered k;
    on_cuts = not_recovered k;
    on_asks = asks_on with_second;
  }

  -- The recovering parser is called where the error arose. If it is incomplete, it fails.
  abbrev pub recovers_by : Does W T ⊤ → Comes W (S × W) T U → Kind → Comes S (S × W) T U
  recovers_by recover resumed k =
      then_next with_first second (CompleteErrDoes recover) (recovery resumed k)

-- On partial input the parser is never incomplete.
pub record NeverAsks {S T O : Type 0} (does : Does S T O) : Type 0 where
  pub none : (s : S) (w : Left T) (need : Option ℕ) (end : End S T)
      → does on_cut s w (asks need end) → ⊥

-- then `complete_err` changes nothing
complete_stays : {S T O : Type 0} {stable : Type 0} {alike : O → O → Type 0} {does : Does S T O}
    → Lawful stable alike does → Lawful (stable × NeverAsks does) alike (CompleteErrDoes does)
complete_stays {S} {T} {O} {stable} {does = does} law = record {
  one = (complete_err_law law).one;
  whole = (complete_err_law law).whole;
  stays = λ is more flag s w y final (x, d, e). (
    longer more x,
    law.stays is.0 more flag s w x (known is.1 s w x y final d e) d,
    comes is.1 more flag s w x y d e,
  );
}
  where
    known : NeverAsks does → (s : S) (w : Left T) (x y : Outcome (End S T) O) → IsFinal y
        → does on_cut s w x → ComesOf completes on_cut s w x y → IsFinal x
    known is s w (took o end) y final d e = tt
    known is s w (backs end) y final d e = tt
    known is s w (cuts end) y final d e = tt
    known is s w (asks need end) y final d e = is.none s w need end d
    known is s w wants y final d e = final_by {y = wants} e final

    comes : NeverAsks does → (more : List T) (flag : Bool) (s : S) (w : Left T)
        (x y : Outcome (End S T) O) → does on_cut s w x → ComesOf completes on_cut s w x y
        → ComesOf completes (grown flag) s (extend more w) (longer more x) (longer more y)
    comes is more flag s w (took o end) y d e = as_longer more e
    comes is more flag s w (backs end) y d e = as_longer more e
    comes is more flag s w (cuts end) y d e = as_longer more e
    comes is more flag s w (asks need end) y d e = absurd (is.none s w need end d)
    comes is more flag s w wants y d e = as_longer more e

itself : {L O : Type 0} (alike : O → O → Type 0) (k : Kind) (end : L)
    → Alike alike (outcome_of (Err k) end) (outcome_of (Err k) end)
itself alike backtrack end = refl
itself alike cut end = refl
itself alike (incomplete need) end = (refl, refl)
itself alike memory end = tt

recoverable : {L O : Type 0} (k : Kind) (need : Option ℕ) (last end : L) → CanRecover k
    → ◌≡◌ {A = Outcome L O} (asks need last) (outcome_of (Err k) end) → ⊥
recoverable backtrack need last end can e = absurd (cc)
recoverable cut need last end can e = absurd (cc)
recoverable (incomplete other) need last end can e = absurd can
recoverable memory need last end can e = absurd can

pub still_less : {T : Type 0} (more xs ys : List T) → length xs < length ys
    → length (xs ++ more) < length (ys ++ more)
still_less more xs ys less = omega (arith, less, length-append xs more, length-append ys more)

pub not_less : {T P : Type 0} {xs ys : List T} → length xs < length ys → xs ≡ ys → P
not_less less e = absurd (omega (arith, less, ap (λ l. length l) e))

module _ {S W T U : Type 0} (must_consume grows : Bool) where
  refused_meet : (beside : U → U → Type 0) (k : Kind)
      → Meets {S = W} {Q = S × W} {T = T} beside (not_recovered must_consume grows k)
      (not_recovered must_consume grows k)
  refused_meet beside k = record {
    one = λ at q w end y z a b. elim a [
      | inl e ↦ elim b [
        | inl f ↦ both beside e f (itself beside k ((q.0, end.0), back w end.1))
        | inr (grew, f) ↦ both beside {u = y} {v = wants} refl f (alike_wants beside y)
      ]
      | inr (grew, e) ↦ both beside {u = wants} {v = z} e refl tt
    ];
  }

  refused_hold : {stable : Type 0} (k : Kind) → CanRecover k
      → Holds {S = W} {Q = S × W} {T = T} {U = U} stable (not_recovered must_consume grows k)
  refused_hold k can = record {
    whole = λ at q w end need last is a. elim a [
      | inl e ↦ recoverable k need last ((q.0, end.0), back w end.1) can e
      | inr (grew, e) ↦ absurd (cc)
    ];
    stays = λ is more flag q w end y final a. elim a [
      | inl e ↦ inl (as_longer more e ∙ error_longer more k ((q.0, end.0), back w end.1))
      | inr (grew, e) ↦ inr (grew, as_longer more e)
    ];
  }

  recovery_meets : {beside : U → U → Type 0} {resumed : Comes W (S × W) T U} (k : Kind)
      → Meets beside resumed resumed
      → NextMeets (λ o p. o ≡ p) beside (recovery must_consume grows resumed k)
      (recovery must_consume grows resumed k)
  recovery_meets {beside} k m = record {
    took = λ o p like. record {
      one = λ at q w end y z a b. elim a [
        | inl (less, inr e) ↦ both beside {u = wants} {v = z} e refl tt
        | inl (less, inl c) ↦ elim b [
          | inl (also, inr f) ↦ both beside {u = y} {v = wants} refl f (alike_wants beside y)
          | inl (also, inl d) ↦ m.one at q w end y z c d
          | inr (must, same, d) ↦ not_less (less must) same
        ]
        | inr (must, same, c) ↦ elim b [
          | inl (less, d) ↦ not_less (less must) same
          | inr (also, is, d) ↦ (refused_meet beside k).one at q w end y z c d
        ]
      ];
    };
    backs = refused_meet beside k;
    cuts = refused_meet beside k;
    asks = asks_meet with_second;
  }

  recovery_holds : {resumed : Comes W (S × W) T U} {stable : Type 0} (k : Kind) → CanRecover k
      → Holds stable resumed → NextHolds stable (recovery must_consume grows resumed k)
  recovery_holds k can h = record {
    took = λ o. record {
      whole = λ at q w end need last is a. elim a [
        | inl (less, inl c) ↦ h.whole at q w end need last is c
        | inl (less, inr e) ↦ absurd (cc)
        | inr (must, same, c) ↦ (refused_hold {stable = ⊤} k can).whole at q w end need last is c
      ];
      stays = λ is more flag q w end y final a. elim a [
        | inl (less, inl c) ↦ inl (
          λ must. still_less more end.1.tokens w.tokens (less must),
          inl (h.stays is more flag q w end y final c),
        )
        | inl (less, inr e) ↦ absurd (final_by {y = wants} e final)
        | inr (must, same, c) ↦ inr (
          must,
          ap (λ l. l ++ more) same,
          (refused_hold {stable = ⊤} k can).stays tt more flag q w end y final c,
        )
      ];
    };
    backs = refused_hold k can;
    cuts = refused_hold k can;
    asks = asks_later with_second;
  }

  pub recovers_meet : {stable : Type 0} {beside : U → U → Type 0} {recover : Does W T ⊤}
      {resumed : Comes W (S × W) T U}
      (k : Kind) → Lawful stable (λ o p. o ≡ p) recover → Meets beside resumed resumed
      → Meets beside (recovers_by must_consume grows recover resumed k)
      (recovers_by must_consume grows recover resumed k)
  recovers_meet k law m = then_meets with_first second (complete_err_law law) (recovery_meets k m)

  pub recovers_hold : {stable also : Type 0} {recover : Does W T ⊤}
      {resumed : Comes W (S × W) T U} (k : Kind) → CanRecover k
      → (stable → also × NeverAsks recover) → Lawful also (λ o p. o ≡ p) recover
      → Holds stable resumed → Holds stable (recovers_by must_consume grows recover resumed k)
  recovers_hold k can with_part law h =
      then_holds with_first second with_part (complete_stays law) (recovery_holds k can h)
