-- Outcomes of calls that recover, or not.
use Rattle.std.specs.Prelude.{◌≡◌, ⊤, Bool, IsTrue, false, Option, Some, None, Ok, Err}
use Rattle.std.proofs.Common.{refl, sym, subst, ap, ◌∙◌, inl, inr}
use Rattle.streams.specs.Input.{Input, IsEndOf, back_at, is_end_of_trans}
use Rattle.streams.specs.Kind.{Kind, backtrack, cut, incomplete, memory}
use Rattle.streams.specs.Reading.{Reading}
use Rattle.stream_errors.specs.Form.{Answer, ErrorForm}
use Rattle.stream_errors.specs.Join.{IsOrMemory}
use Rattle.parser_definitions.specs.Does.{Ran}
use Rattle.parser_definitions.specs.Left.{End, left_of}
use Rattle.parser_definitions.specs.Outcome.{Does, Outcome, Setting, asks, backs, cuts, outcome_of}
use Rattle.parser_definitions.specs.Outcome.{setting_of, took, wants}
use Rattle.parser_definitions.specs.Recover.{CanRecover, Recovery, not_recovered, recovers_by}
use Rattle.parser_definitions.specs.Resume.{ResumeAfterDoes, ResumeDoes, child, resumes, with_child}
use Rattle.parser_definitions.specs.Outputs.{SomeDoes, made}
use Rattle.parser_definitions.specs.Then.{Comes, ComesOf, Next, Then}
use Rattle.parser_definitions.specs.Then.Steps.{In, asks_on, first, instead, takes, where_took}
use Rattle.parser_definitions.specs.Then.Steps.{with_first}
use Rattle.winnow_core.specs.Results.{handed}
use Rattle.winnow_core.specs.Settings.{at_setting}
use Rattle.winnow_recovery.specs.Recovery.{IsNotRecovered, IsRecovered}

pub there : {T L : Type 0} (reading : Reading T L) (form : ErrorForm) (x i : Input T)
    → IsEndOf reading x i → setting_of form x ≡ setting_of form i
there reading form x i ends =
    at_setting {at = setting_of form i} {i = x}
    (record { more = ends.cut; possible = ends.ends.possible })

-- ---- the child fails at `x`, and the recovering parser is called there

module _ {S W T L O U : Type 0} (reading : Reading T L) (must_consume grows : Bool)
    (output : O → Comes S (S × W) T U) (resumed : Kind → Comes W (S × W) T U) (does : Does S T O)
    (recover : Does W T ⊤) (form : ErrorForm) (s : S × W) (i x : Input T) (k : Kind) (u : S)
    (failed : Ran reading does form s.0 i (Err k) u x) where
  abbrev Recovers : Kind → Comes S (S × W) T U
  Recovers k = recovers_by must_consume grows recover (resumed k) k

  -- what comes of the child's outcome
  abbrev next : Next S (S × W) T O U
  next = record {
    on_took = output;
    on_backs = Recovers backtrack;
    on_cuts = Recovers cut;
    on_asks = asks_on with_first;
  }

  abbrev Comes_of : Kind → Setting → Outcome (End (S × W) T) U → Type 0
  Comes_of k at y = ComesOf next at s (left_of i) (outcome_of (Err k) (u, left_of x)) y

  -- it can recover
  caught : (k : Kind) (at : Setting) (y : Outcome (End (S × W) T) U) → CanRecover k
      → Recovers k at s (left_of i) (u, left_of x) y → Comes_of k at y
  caught backtrack at y can c = c
  caught cut at y can c = c
  caught (incomplete need) at y can c = absurd can
  caught memory at y can c = absurd can

  pub caught_ran : (a : Answer U) (t : S × W) (j : Input T) → CanRecover k → IsEndOf reading j x
      → Recovers k (setting_of form x) s (left_of i) (u, left_of x) (outcome_of a (t, left_of j))
      → Ran reading (Then first does next) form s i a t j
  caught_ran a t j can ends c =
      let y : Outcome (End (S × W) T) U = outcome_of a (t, left_of j) in
      let P : Setting → Type 0 = λ z. Recovers k z s (left_of i) (u, left_of x) y in (
        is_end_of_trans ends failed.0,
        ends.cut ∙ failed.1,
        ends.ends.possible ∙ failed.2,
        (
          outcome_of (Err k) (u, left_of x),
          failed.3,
          caught k (setting_of form i) y can (subst P (there reading form x i failed.0) c),
        ),
      )

  -- it cannot
  lost : (k : Kind) (at : Setting) → (CanRecover k → ⊥)
      → Comes_of k at (outcome_of (Err k) ((u, s.1), left_of x))
  lost backtrack at cannot = absurd (cannot tt)
  lost cut at cannot = absurd (cannot tt)
  lost (incomplete need) at cannot = refl
  lost memory at cannot = refl

  pub lost_ran : (CanRecover k → ⊥)
      → Ran reading (Then first does next) form s i (Err k) (u, s.1) x
  lost_ran cannot = (
    failed.0,
    failed.1,
    failed.2,
    (outcome_of (Err k) (u, left_of x), failed.3, lost k (setting_of form i) cannot),
  )

  -- the error `l` is returned in state `v`, where the input is reset
  abbrev returned : Kind → W → Input T → Outcome (End (S × W) T) U
  returned l v m = outcome_of (Err l) ((u, v), left_of (back_at x.left m))

  abbrev Refuses : W → Input T → Outcome (End (S × W) T) U → Type 0
  Refuses v m =
      not_recovered must_consume grows k (setting_of form x) (u, s.1) (left_of x) (v, left_of m)

  refused : (l : Kind) (v : W) (m : Input T) → IsOrMemory k (IsTrue grows) l
      → Refuses v m (returned l v m)
  refused l v m (inl is) = inl (ap (λ z. returned z v m) is)
  refused l v m (inr (is, grew)) = inr (grew, ap (λ z. returned z v m) is)

  -- the recovering parser fails
  failing : (f : Kind) (v : W) (m : Input T) (y : Outcome (End (S × W) T) U)
      → (f ≡ memory → ⊥) → Ran reading recover form s.1 x (Err f) v m → Refuses v m y
      → Recovers k (setting_of form x) s (left_of i) (u, left_of x) y
  failing backtrack v m y other r n = (backs (v, left_of m), (backs (v, left_of m), r.3, refl), n)
  failing cut v m y other r n = (cuts (v, left_of m), (cuts (v, left_of m), r.3, refl), n)
  failing (incomplete need) v m y other r n =
      (backs (v, left_of m), (asks need (v, left_of m), r.3, refl), n)
  failing memory v m y other r n = absurd (other refl)

  -- it does not recover
  pub stopped_ran : (l : Kind) (v : W) (j : Input T) → CanRecover k → IsEndOf reading j x
      → IsNotRecovered must_consume grows (Ran reading recover form) k s.1 x l v j
      → Ran reading (Then first does next) form s i (Err l) (u, v) j
  stopped_ran l v j can ends (m, same, cases) =
      let end : End W T = (v, left_of m) in
      let P : Input T → Type 0 = λ z. Recovers k (setting_of form x) s (left_of i) (u, left_of x)
      (outcome_of (Err l) ((u, v), left_of z)) in
      caught_ran (Err l) (u, v) j can ends (subst P (sym same) (elim cases [
        | inl (f, r, other, is) ↦ failing f v m (returned l v m) other r (refused l v m is)
        | inr (inl (r, is)) ↦ (wants, (wants, r.3, refl), ap (λ z. returned z v m) is)
        | inr (inr (inl (must, r, none, is))) ↦
            (took tt end, (took tt end, r.3, refl), inr (must, none, refused l v m is))
        | inr (inr (inr (r, less, is))) ↦
            (took tt end, (took tt end, r.3, refl), inl (less, inr (ap (λ z. returned z v m) is)))
      ]))

-- it recovers, and there is no output
pub resumed_ran : {S W T L O : Type 0} (reading : Reading T L) (grows : Bool) (does : Does S T O)
    (recover : Does W T ⊤) (form : ErrorForm) (s t : S × W) (i x j : Input T) (k : Kind)
    → Ran reading does form s.0 i (Err k) t.0 x → CanRecover k → IsEndOf reading j x
    → IsRecovered false (Ran reading recover form) k s.1 x t.1 j
    → Ran reading (ResumeDoes grows does recover) form s i (Ok None) t j
resumed_ran reading grows does recover form s t i x j k ran can ends (m, skipped, less, same) =
    caught_ran reading false grows (λ o. takes with_first (Some o)) resumes does recover form s i x
    k t.0 ran (Ok None) t j can ends (
      took tt (t.1, left_of m),
      (took tt (t.1, left_of m), skipped.3, refl),
      inl (less, inl (ap (λ z. took None (t, left_of z)) same)),
    )

-- ---- the whole has a state besides

-- a definition for the state of a whole
pub in_ran : {S Q T L O : Type 0} (get : Q → S) (put : Q → S → Q) (reading : Reading T L)
    (does : Does S T O) (form : ErrorForm) (q : Q) (i : Input T) (a : Answer O) (s : S)
    (j : Input T) → Ran reading does form (get q) i a s j
    → Ran reading (In get put does) form q i a (put q s) j
in_ran get put reading does form q i a s j ran = (
  ran.0,
  ran.1,
  ran.2,
  (
    outcome_of a (s, left_of j),
    ran.3,
    handed put (setting_of form i) q (left_of i) a s (left_of j),
  ),
)

-- `resume_after` over a stream that records no errors
abbrev pub some_of : {O : Type 0} → Answer O → Answer (Option O)
some_of (Ok o) = Ok (Some o)
some_of (Err k) = Err k

pub some_ran : {S W T L O : Type 0} (reading : Reading T L) (does : Does S T O)
    (recover : Does W T ⊤) (form : ErrorForm) (q : S × W × Recovery) (i : Input T) (a : Answer O)
    (s : S) (j : Input T) → q.2.recovers ≡ false → Ran reading does form q.0 i a s j
    → Ran reading (ResumeAfterDoes does recover) form q i (some_of a) (s, q.1, q.2) j
some_ran {O = O} reading does recover form q i a s j off ran =
    let some = in_ran child with_child reading (SomeDoes does) form q i (some_of a) s j
    (ran.0, ran.1, ran.2, (outcome_of a (s, left_of j), ran.3, by a)) in
    (some.0, some.1, some.2, inr (off, some.3))
  where
    by : (a : Answer O) → ComesOf (where_took instead (made (λ w o end u. u ≡ Some o)))
        (setting_of form i) q.0 (left_of i) (outcome_of a (s, left_of j))
        (outcome_of (some_of a) (s, left_of j))
    by (Ok o) = (Some o, refl, refl)
    by (Err backtrack) = refl
    by (Err cut) = refl
    by (Err (incomplete need)) = refl
    by (Err memory) = refl
