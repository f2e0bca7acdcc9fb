-- The definition of `resume_after`.
use Rattle.std.specs.Prelude.{◌≡◌, ⊤, Bool, true, false, Option, Some, None}
use Rattle.std.proofs.Common.{refl, sym, ◌∙◌}
use Rattle.streams.specs.Equal.{true_is_false}
use Rattle.streams.specs.Kind.{Kind, backtrack, cut}
use Rattle.parser_definitions.specs.Cases.{Given, OneCase, cases_law, given_law}
use Rattle.parser_definitions.specs.Does.{Lawful}
use Rattle.parser_definitions.specs.Equal.{AlikeOptions}
use Rattle.parser_definitions.specs.Outcome.{Does, as_longer, both, took}
use Rattle.parser_definitions.specs.Outputs.{SomeDoes, some_law}
use Rattle.parser_definitions.specs.Recover.{NeverAsks, Recovery, record_error, recovers_by}
use Rattle.parser_definitions.specs.Recover.{recovers_hold, recovers_meet}
use Rattle.parser_definitions.specs.Then.{Comes, Holds, Meets, Then, then_law}
use Rattle.parser_definitions.specs.Then.Steps.{In, asks_later, asks_meet, asks_on, first, in_law}
use Rattle.parser_definitions.specs.Then.Steps.{takes, takes_hold, takes_meet, with_first}

-- Resumes after the recovered input.
abbrev pub resumes : {S W T O : Type 0} → Kind → Comes W (S × W) T (Option O)
resumes k at q w end y = y ≡ took None ((q.0, end.0), record_error end.1 k)

-- The child succeeds, and its output is in `Some`; or it fails and there is no output, after it
-- recovered and the error was recorded.
abbrev pub ResumeDoes : {S W T O : Type 0} → Bool → Does S T O → Does W T ⊤
    → Does (S × W) T (Option O)
ResumeDoes grows does recover = Then first does (record {
  on_took = λ o. takes with_first (Some o);
  on_backs = recovers_by false grows recover (resumes backtrack) backtrack;
  on_cuts = recovers_by false grows recover (resumes cut) cut;
  on_asks = asks_on with_first;
})

-- the state of the child, the recovering parser and the properties of the stream
abbrev pub child : {S W : Type 0} → S × W × Recovery → S
child q = q.0

abbrev pub with_child : {S W : Type 0} → S × W × Recovery → S → S × W × Recovery
with_child q s = (s, q.1, q.2)

abbrev pub children : {S W : Type 0} → S × W × Recovery → S × W
children q = (q.0, q.1)

abbrev pub with_children : {S W : Type 0} → S × W × Recovery → S × W → S × W × Recovery
with_children q c = (c.0, c.1, q.2)

-- Over a stream that records errors, the child resumes; over another, it is called alone.
abbrev pub ResumeAfterDoes : {S W T O : Type 0} → Does S T O → Does W T ⊤
    → Does (S × W × Recovery) T (Option O)
ResumeAfterDoes does recover = OneCase
    (λ at q w y. (q.2.recovers ≡ true)
    × In children with_children (ResumeDoes q.2.grows does recover) at q w y)
    (Given (λ q. q.2.recovers ≡ false) (In child with_child (SomeDoes does)))

-- ---- the law

module _ {S W T O : Type 0} where
  resumes_meet : (alike : O → O → Type 0) (k : Kind)
      → Meets {S = W} {Q = S × W} {T = T} (AlikeOptions alike) (resumes k) (resumes k)
  resumes_meet alike k = record {
    one = λ at q w end y z e f. both (AlikeOptions alike) e f (tt, refl);
  }

  resumes_hold : {stable : Type 0} (k : Kind)
      → Holds {S = W} {Q = S × W} {T = T} {U = Option O} stable (resumes k)
  resumes_hold k = record {
    whole = λ at q w end need last is e. absurd (cc);
    stays = λ is more flag q w end y final e. as_longer more e;
  }

-- It is stable if the recovering parser is never incomplete: otherwise the error is returned, and
-- with more tokens it may recover.
module _ {S W T O : Type 0} {stable also : Type 0} {alike : O → O → Type 0} {does : Does S T O}
    {recover : Does W T ⊤} (law : Lawful stable alike does)
    (recovers : Lawful also (λ o p. o ≡ p) recover) where
  pub resume_law : (grows : Bool)
      → Lawful (stable × (also × NeverAsks recover)) (AlikeOptions alike)
      (ResumeDoes grows does recover)
  resume_law grows = then_law law (record {
    took = λ o p like. takes_meet with_first like;
    backs = recovers_meet false grows backtrack recovers (resumes_meet alike backtrack);
    cuts = recovers_meet false grows cut recovers (resumes_meet alike cut);
    asks = asks_meet with_first;
  }) (record {
    took = λ o. takes_hold with_first;
    backs = recovers_hold false grows backtrack tt (λ is. is.1) recovers (resumes_hold backtrack);
    cuts = recovers_hold false grows cut tt (λ is. is.1) recovers (resumes_hold cut);
    asks = asks_later with_first;
  }) (λ is. is.0)

  by_state : Lawful (stable × (also × NeverAsks recover)) (AlikeOptions alike)
      (λ at (q : S × W × Recovery) w y. (q.2.recovers ≡ true)
      × In children with_children (ResumeDoes q.2.grows does recover) at q w y)
  by_state = record {
    one = λ at q w x y (on, d) (off, e). (each q.2.grows).one at q w x y d e;
    whole = λ at q w need last is (on, d). (each q.2.grows).whole at q w need last is d;
    stays = λ is more flag q w x final (on, d).
        (on, (each q.2.grows).stays is more flag q w x final d);
  }
    where
      each : (grows : Bool) → Lawful (stable × (also × NeverAsks recover)) (AlikeOptions alike)
          (In children with_children (ResumeDoes grows does recover))
      each grows = in_law children with_children (resume_law grows)

  -- over a stream that records no errors
  pub resume_alone_law : Lawful stable (AlikeOptions alike)
      (Given (λ (q : S × W × Recovery). q.2.recovers ≡ false) (In child with_child (SomeDoes does)))
  resume_alone_law = given_law (λ (q : S × W × Recovery). q.2.recovers ≡ false)
      (in_law child with_child (some_law law))

  pub resume_after_law : Lawful (stable × (also × NeverAsks recover)) (AlikeOptions alike)
      (ResumeAfterDoes does recover)
  resume_after_law = cases_law by_state (record {
    one = resume_alone_law.one;
    whole = resume_alone_law.whole;
    stays = λ is. resume_alone_law.stays is.0;
  }) (λ at q w x y (on, d) (off, e). true_is_false (sym on ∙ off))
