-- The definition of `retry_after`.
use Rattle.std.specs.Prelude.{◌≡◌, ◌<◌, ⊤, ℕ, Bool, true, false, List, length, Option, Err}
use Rattle.std.proofs.Common.{refl, sym, subst, ◌∙◌, inl, inr}
use Rattle.streams.specs.Equal.{true_is_false}
use Rattle.streams.specs.Kind.{Kind, backtrack, cut, incomplete, memory}
use Rattle.parser_definitions.specs.Cases.{Given, OneCase, cases_law, given_law}
use Rattle.parser_definitions.specs.Does.{Lawful}
use Rattle.parser_definitions.specs.Errors.{error_longer}
use Rattle.parser_definitions.specs.Left.{End, Left, extend, extend_end}
use Rattle.parser_definitions.specs.MapErr.{complete_err_law}
use Rattle.parser_definitions.specs.Outcome.{Alike, Does, IsFinal, Outcome, Setting, alike_wants}
use Rattle.parser_definitions.specs.Outcome.{asks, backs, both, cuts, grown, longer, on_cut}
use Rattle.parser_definitions.specs.Outcome.{outcome_of, took, wants}
use Rattle.parser_definitions.specs.Recover.{CanRecover, NeverAsks, Recovery, not_less}
use Rattle.parser_definitions.specs.Recover.{record_error, recovers_by, recovers_hold}
use Rattle.parser_definitions.specs.Recover.{recovers_meet, recovery, still_less}
use Rattle.parser_definitions.specs.Resume.{child, children, with_child, with_children}
use Rattle.parser_definitions.specs.Then.{Comes, ComesOf, Holds, Meets, Next, Then, then_law}
use Rattle.parser_definitions.specs.Then.Steps.{In, asks_later, asks_meet, asks_on, first, in_law}
use Rattle.parser_definitions.specs.Then.Steps.{takes, takes_hold, takes_meet, with_first}

-- This never happens.
abbrev pub never : {S Q T U : Type 0} → Comes S Q T U
never at q w end y = ⊥

-- The last try: the child succeeds, or fails and does not recover.
abbrev pub gives_up : {S W T O : Type 0} → Bool → Does W T ⊤ → Next S (S × W) T O O
gives_up grows recover = record {
  on_took = λ o. takes with_first o;
  on_backs = recovers_by true grows recover never backtrack;
  on_cuts = recovers_by true grows recover never cut;
  on_asks = asks_on with_first;
}

-- The child fails, and the recovering parser consumes tokens; the error is recorded, and the child
-- is called again where it ended. Or it is the last try.
pub data RetryDoes {S W T O : Type 0} (grows : Bool) (does : Does S T O) (recover : Does W T ⊤)
    (at : Setting) : S × W → Left T → Outcome (End (S × W) T) O → Type 0 where
  again : {q : S × W} {w : Left T} {y : Outcome (End (S × W) T) O} (k : Kind) (end : End S T)
      (last : End W T) → CanRecover k → does at q.0 w (outcome_of (Err k) end)
      → recover at q.1 end.1 (took tt last) → length last.1.tokens < length end.1.tokens
      → RetryDoes grows does recover at (end.0, last.0) (record_error last.1 k) y
      → RetryDoes grows does recover at q w y
  once : {q : S × W} {w : Left T} {y : Outcome (End (S × W) T) O}
      → Then first does (gives_up grows recover) at q w y
      → RetryDoes grows does recover at q w y

-- Over a stream that records errors, the child is tried again; over another, it is called alone.
abbrev pub RetryAfterDoes : {S W T O : Type 0} → Does S T O → Does W T ⊤
    → Does (S × W × Recovery) T O
RetryAfterDoes does recover = OneCase
    (λ at q w y. (q.2.recovers ≡ true)
    × In children with_children (λ at. RetryDoes q.2.grows does recover at) at q w y)
    (Given (λ q. q.2.recovers ≡ false) (In child with_child does))

-- ---- the law

one_failure : {L O : Type 0} (alike : O → O → Type 0) (k l : Kind) (end last : L) → CanRecover k
    → CanRecover l → Alike alike (outcome_of (Err k) end) (outcome_of (Err l) last)
    → (k ≡ l) × (end ≡ last)
one_failure alike backtrack backtrack end last can may is = (refl, is)
one_failure alike backtrack cut end last can may is = absurd is
one_failure alike cut backtrack end last can may is = absurd is
one_failure alike cut cut end last can may is = (refl, is)
one_failure alike (incomplete need) l end last can may is = absurd can
one_failure alike memory l end last can may is = absurd can
one_failure alike backtrack (incomplete need) end last can may is = absurd may
one_failure alike backtrack memory end last can may is = absurd may
one_failure alike cut (incomplete need) end last can may is = absurd may
one_failure alike cut memory end last can may is = absurd may

longer_failure : {S T O : Type 0} (does : Setting → Outcome (End S T) O → Type 0)
    (flag : Bool) (more : List T) (k : Kind) (end : End S T)
    → does (grown flag) (longer more (outcome_of (Err k) end))
    → does (grown flag) (outcome_of (Err k) (extend_end more end))
longer_failure does flag more k end d =
    subst (λ x. does (grown flag) x) (error_longer more k end) d

failure_final : {L : Type 0} (O : Type 0) (k : Kind) (end : L) → CanRecover k
    → IsFinal {O = O} (outcome_of (Err k) end)
failure_final O backtrack end can = tt
failure_final O cut end can = tt
failure_final O (incomplete need) end can = absurd can
failure_final O memory end can = absurd can

never_meets : {S Q T U : Type 0} (alike : U → U → Type 0)
    → Meets {S = S} {Q = Q} {T = T} alike never never
never_meets alike = record { one = λ at q w end y z a b. absurd a }

never_holds : {S Q T : Type 0} (U : Type 0) {stable : Type 0}
    → Holds {S = S} {Q = Q} {T = T} {U = U} stable never
never_holds U = record {
  whole = λ at q w end need last is a. absurd a;
  stays = λ is more flag q w end y final a. absurd a;
}

module _ {S W T O : Type 0} (grows : Bool) {stable also : Type 0} {alike : O → O → Type 0}
    {does : Does S T O} {recover : Does W T ⊤} (law : Lawful stable alike does)
    (recovers : Lawful also (λ o p. o ≡ p) recover) where
  abbrev Tries : Setting → S × W → Left T → Outcome (End (S × W) T) O → Type 0
  Tries = RetryDoes grows does recover

  last_law : Lawful (stable × (also × NeverAsks recover)) alike
      (Then first does (gives_up grows recover))
  last_law = then_law law (record {
    took = λ o p like. takes_meet with_first like;
    backs = recovers_meet true grows backtrack recovers (never_meets alike);
    cuts = recovers_meet true grows cut recovers (never_meets alike);
    asks = asks_meet with_first;
  }) (record {
    took = λ o. takes_hold with_first;
    backs = recovers_hold true grows backtrack tt (λ is. is.1) recovers (never_holds O);
    cuts = recovers_hold true grows cut tt (λ is. is.1) recovers (never_holds O);
    asks = asks_later with_first;
  }) (λ is. is.0)

  -- a call that recovers is not the last try
  recovered_wants : (k : Kind) (at : Setting) (q : S × W) (w : Left T) (last : End W T)
      (v : Outcome (End W T) ⊤) (z : Outcome (End (S × W) T) O)
      → length last.1.tokens < length w.tokens → Alike (λ o p. o ≡ p) (took tt last) v
      → ComesOf (recovery true grows never k) at q w v z → z ≡ wants
  recovered_wants k at q w last (took o end) z less (one, is) (inl (fewer, inl c)) = absurd c
  recovered_wants k at q w last (took o end) z less (one, is) (inl (fewer, inr e)) = e
  recovered_wants k at q w last (took o end) z less (one, is) (inr (must, same, c)) =
      not_less (subst (λ l. length l.1.tokens < length w.tokens) is less) same
  recovered_wants k at q w last (backs end) z less is c = absurd is
  recovered_wants k at q w last (cuts end) z less is c = absurd is
  recovered_wants k at q w last (asks need end) z less is c = absurd is
  recovered_wants k at q w last wants z less is c = c

  by_recover : (k : Kind) (at : Setting) (q : S × W) (w : Left T) (end place : End S T)
      (last : End W T) (z : Outcome (End (S × W) T) O) → end ≡ place
      → recover at q.1 end.1 (took tt last) → length last.1.tokens < length end.1.tokens
      → recovers_by true grows recover never k at q w place z → z ≡ wants
  by_recover k at q w end place last z is r less (v, d, c) =
      let P : End S T → Type 0 = λ l. recover at q.1 l.1 (took tt last) in
      let Q : End S T → Type 0 = λ l. length last.1.tokens < length l.1.tokens in
      recovered_wants k at (place.0, q.1) place.1 last v z (subst Q is less)
      ((complete_err_law recovers).one at q.1 place.1 (took tt last) v
      (took tt last, subst P is r, refl) d) c

  not_last : (k : Kind) (at : Setting) (q : S × W) (w : Left T) (end : End S T) (last : End W T)
      (x : Outcome (End S T) O) (z : Outcome (End (S × W) T) O) → CanRecover k
      → Alike alike (outcome_of (Err k) end) x → recover at q.1 end.1 (took tt last)
      → length last.1.tokens < length end.1.tokens
      → ComesOf (gives_up grows recover) at q w x z → z ≡ wants
  not_last backtrack at q w end last (backs place) z can is r less c =
      by_recover backtrack at q w end place last z is r less c
  not_last backtrack at q w end last (took o place) z can is r less c = absurd is
  not_last backtrack at q w end last (cuts place) z can is r less c = absurd is
  not_last backtrack at q w end last (asks need place) z can is r less c = absurd is
  not_last backtrack at q w end last wants z can is r less c = c
  not_last cut at q w end last (cuts place) z can is r less c =
      by_recover cut at q w end place last z is r less c
  not_last cut at q w end last (took o place) z can is r less c = absurd is
  not_last cut at q w end last (backs place) z can is r less c = absurd is
  not_last cut at q w end last (asks need place) z can is r less c = absurd is
  not_last cut at q w end last wants z can is r less c = c
  not_last (incomplete need) at q w end last x z can is r less c = absurd can
  not_last memory at q w end last x z can is r less c = absurd can

  retry_one : (at : Setting) (q : S × W) (w : Left T) (y z : Outcome (End (S × W) T) O)
      → Tries at q w y → Tries at q w z → Alike alike y z
  retry_one at q w y z (again k end last can d r less rest)
      (again l place final may e s lesser other) =
      let (kind, is) = one_failure alike k l end place can may
      (law.one at q.0 w (outcome_of (Err k) end) (outcome_of (Err l) place) d e) in
      let P : End S T → Type 0 = λ p. recover at q.1 p.1 (took tt final) in
      let same = (recovers.one at q.1 end.1 (took tt last) (took tt final) r
      (subst P (sym is) s)).1 in
      let A : End S T → Type 0 = λ p. Tries at (p.0, final.0) (record_error final.1 l) z in
      let B : End W T → Type 0 = λ p. Tries at (end.0, p.0) (record_error p.1 l) z in
      let C : Kind → Type 0 = λ m. Tries at (end.0, last.0) (record_error last.1 m) z in
      retry_one at (end.0, last.0) (record_error last.1 k) y z rest
      (subst C (sym kind) (subst B (sym same) (subst A (sym is) other)))
  retry_one at q w y z (again k end last can d r less rest) (once (x, e, c)) =
      both alike {u = y} {v = wants} refl
      (not_last k at q w end last x z can
      (law.one at q.0 w (outcome_of (Err k) end) x d e) r less c) (alike_wants alike y)
  retry_one at q w y z (once (x, e, c)) (again k end last can d r less rest) =
      both alike {u = wants} {v = z}
      (not_last k at q w end last x y can
      (law.one at q.0 w (outcome_of (Err k) end) x d e) r less c) refl tt
  retry_one at q w y z (once a) (once b) = last_law.one at q w y z a b

  retry_whole : (at : Setting) (q : S × W) (w : Left T) (need : Option ℕ)
      (final : End (S × W) T) → at.more ≡ false → Tries at q w (asks need final) → ⊥
  retry_whole at q w need final is (again k end last can d r less rest) =
      retry_whole at (end.0, last.0) (record_error last.1 k) need final is rest
  retry_whole at q w need final is (once a) = last_law.whole at q w need final is a

  retry_stays : stable × (also × NeverAsks recover) → (more : List T) (flag : Bool) (q : S × W)
      (w : Left T) (x : Outcome (End (S × W) T) O) → IsFinal x → Tries on_cut q w x
      → Tries (grown flag) q (extend more w) (longer more x)
  retry_stays is more flag q w x final (again k end last can d r less rest) =
      again k (extend_end more end) (extend_end more last) can
      (longer_failure (λ at x. does at q.0 (extend more w) x) flag more k end
      (law.stays is.0 more flag q.0 w (outcome_of (Err k) end) (failure_final O k end can) d))
      (recovers.stays is.1.0 more flag q.1 end.1 (took tt last) tt r)
      (still_less more last.1.tokens end.1.tokens less)
      (retry_stays is more flag (end.0, last.0) (record_error last.1 k) x final rest)
  retry_stays is more flag q w x final (once a) =
      once (last_law.stays is more flag q w x final a)

  -- It is stable if the recovering parser is never incomplete.
  pub retry_law : Lawful (stable × (also × NeverAsks recover)) alike
      (λ at. RetryDoes grows does recover at)
  retry_law = record { one = retry_one; whole = retry_whole; stays = retry_stays }

module _ {S W T O : Type 0} {stable also : Type 0} {alike : O → O → Type 0}
    {does : Does S T O} {recover : Does W T ⊤} (law : Lawful stable alike does)
    (recovers : Lawful also (λ o p. o ≡ p) recover) where
  by_state : Lawful (stable × (also × NeverAsks recover)) alike
      (λ at (q : S × W × Recovery) w y. (q.2.recovers ≡ true)
      × In children with_children (λ at. RetryDoes q.2.grows does recover at) at q w y)
  by_state = record {
    one = λ at q w x y (on, d) (off, e). (each q.2.grows).one at q w x y d e;
    whole = λ at q w need last is (on, d). (each q.2.grows).whole at q w need last is d;
    stays = λ is more flag q w x final (on, d).
        (on, (each q.2.grows).stays is more flag q w x final d);
  }
    where
      each : (grows : Bool) → Lawful (stable × (also × NeverAsks recover)) alike
          (In children with_children (λ at. RetryDoes grows does recover at))
      each grows = in_law children with_children (retry_law grows law recovers)

  -- over a stream that records no errors
  pub retry_alone_law : Lawful stable alike
      (Given (λ (q : S × W × Recovery). q.2.recovers ≡ false) (In child with_child does))
  retry_alone_law =
      given_law (λ (q : S × W × Recovery). q.2.recovers ≡ false) (in_law child with_child law)

  pub retry_after_law : Lawful (stable × (also × NeverAsks recover)) alike
      (RetryAfterDoes does recover)
  retry_after_law = cases_law by_state (record {
    one = retry_alone_law.one;
    whole = retry_alone_law.whole;
    stays = λ is. retry_alone_law.stays is.0;
  }) (λ at q w x y (on, d) (off, e). true_is_false (sym on ∙ off))
