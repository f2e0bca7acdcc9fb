-- Invariants of the loop that retries a parser.
use Rattle.std.specs.Prelude.{◌<◌, ⊤, Bool, Err, length, true}
use Rattle.std.proofs.Common.{ap, arith, refl, subst, ◌∙◌}
use Rattle.streams.specs.Input.{Input, IsEndOf, is_end_of_trans}
use Rattle.streams.specs.Kind.{Kind}
use Rattle.streams.specs.Reading.{Reading}
use Rattle.stream_errors.specs.Form.{Answer, ErrorForm}
use Rattle.parser_definitions.specs.Does.{Ran}
use Rattle.parser_definitions.specs.Left.{left_of}
use Rattle.parser_definitions.specs.Outcome.{Does, Setting, outcome_of, setting_of, took}
use Rattle.parser_definitions.specs.Recover.{CanRecover}
use Rattle.parser_definitions.specs.Retry.{RetryDoes, again}
use Rattle.winnow_core.specs.Ends.{same_units, units_fall}
use Rattle.winnow_core.specs.Runs.{Runs}
use Rattle.winnow_recovery.specs.Recovery.{IsRecovered}
use Rattle.winnow_recovery.proofs.RecoveryLemmas.{there}

-- What a call from here does, the whole does.
pub record Leads {S T O : Type 0} (run : Runs S T O) (s : S) (i : Input T) (u : S) (m : Input T)
    : Type 0 where
  pub leads : (a : Answer O) (t : S) (j : Input T) → run u m a t j → run s i a t j

pub leads_here : {S T O : Type 0} (run : Runs S T O) (s : S) (i : Input T) → Leads run s i s i
leads_here run s i = record { leads = λ a t j ran. ran }

-- one more
pub leads_on : {S T O : Type 0} {run : Runs S T O} {s : S} {i : Input T} {u : S} {m : Input T}
    {v : S} {n : Input T} → Leads run s i u m → ((a : Answer O) (t : S) (j : Input T)
    → run v n a t j → run u m a t j) → Leads run s i v n
leads_on tries one = record { leads = λ a t j ran. tries.leads a t j (one a t j ran) }

-- a try that recovers, and what follows it
pub again_ran : {S W T L O : Type 0} (reading : Reading T L) (grows : Bool) (does : Does S T O)
    (recover : Does W T ⊤) (form : ErrorForm) (s t : S × W) (i x m : Input T) (k : Kind)
    → CanRecover k → Ran reading does form s.0 i (Err k) t.0 x → IsEndOf reading m x
    → IsRecovered true (Ran reading recover form) k s.1 x t.1 m → (a : Answer O) (u : S × W)
    (j : Input T) → Ran reading (λ at. RetryDoes grows does recover at) form t m a u j
    → Ran reading (λ at. RetryDoes grows does recover at) form s i a u j
again_ran {S} {W} {T} reading grows does recover form s t i x m k can ran ends
    (n, skipped, less, same) a u j more =
    let back : IsEndOf reading m i = is_end_of_trans ends ran.0 in
    let P : Setting → Type 0 = λ z. recover z s.1 (left_of x) (took tt (t.1, left_of n)) in
    let Q : Setting → Type 0 = λ z.
    RetryDoes grows does recover z t (left_of m) (outcome_of a (u, left_of j)) in
    let R : Input T → Type 0 = λ z. RetryDoes grows does recover (setting_of form i) t (left_of z)
    (outcome_of a (u, left_of j)) in (
      is_end_of_trans more.0 back,
      more.1 ∙ back.cut,
      more.2 ∙ back.ends.possible,
      again k (t.0, left_of x) (t.1, left_of n) can ran.3
          (subst P (there reading form x i ran.0) skipped.3) (less refl)
          (subst R same (subst Q (there reading form m i back) more.3)),
    )

-- a try that was recovered from leaves fewer units
pub try_falls : {W T L : Type 0} (reading : Reading T L) (recover : Runs W T (Unit {0}))
    (k : Kind) (w : W) (i x : Input T) (v : W) (j : Input T) → IsEndOf reading x i
    → IsEndOf reading j x → IsRecovered true recover k w x v j
    → reading.units j.left.tokens < reading.units i.left.tokens
try_falls reading recover k w i x v j first second (m, ran, consumed, same) =
    let fewer : length j.left.tokens < length x.left.tokens =
    omega (arith, consumed refl, ap (λ (y : Input _). length y.left.tokens) same) in
    let falls = units_fall reading j x second
    (λ e. absurd (omega (arith, fewer, ap (λ l. length l) (same_units reading j x second e)))) in
    omega (
      arith,
      falls,
      ap reading.units first.ends.tokens,
      reading.units_add first.ends.dropped x.left.tokens,
    )
