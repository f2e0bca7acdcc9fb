-- The setting of a call, and the inputs in it.
use Rattle.std.specs.Prelude.{◌≡◌}
use Rattle.std.proofs.Common.{sym, subst, ap, ◌∙◌}
use Rattle.streams.specs.Input.{Input, IsEndOf, back_at}
use Rattle.streams.specs.Reading.{Reading}
use Rattle.stream_errors.specs.Form.{Answer, ErrorForm}
use Rattle.parser_definitions.specs.Does.{Ran}
use Rattle.parser_definitions.specs.Left.{left_of}
use Rattle.parser_definitions.specs.Outcome.{Does, Setting, outcome_of, setting_of}

-- The input has the setting's flag for partial input, and whether its tokens can be read is that of
-- the setting.
pub record At {T : Type 0} (at : Setting) (i : Input T) : Type 0 where
  pub more : i.status.cut ≡ at.more
  pub possible : i.left.possible ≡ at.possible

pub at_setting : {T : Type 0} {at : Setting} {i : Input T} → At at i
    → setting_of at.form i ≡ at
at_setting {at = at} {i = i} here =
    ap (λ b. record at { more = b; possible = i.left.possible }) here.more
    ∙ ap (λ b. record at { possible = b }) here.possible

pub at_end : {T L : Type 0} {reading : Reading T L} {at : Setting} {i j : Input T} → At at i
    → IsEndOf reading j i → At at j
at_end here e =
    record { more = e.cut ∙ here.more; possible = e.ends.possible ∙ here.possible }

-- the outcome of a call in this setting
pub outcome_at : {S T L O : Type 0} (reading : Reading T L) (does : Does S T O) (at : Setting)
    (s : S) (i : Input T) (answer : Answer O) (t : S) (j : Input T) → At at i
    → Ran reading does at.form s i answer t j
    → does at s (left_of i) (outcome_of answer (t, left_of j))
outcome_at reading does at s i answer t j here ran =
    subst (λ z. does z s (left_of i) (outcome_of answer (t, left_of j))) (at_setting here)
    ran.3

-- a call that leaves its state
pub kept_ran : {S T L O : Type 0} (reading : Reading T L) (does : Does S T O) (form : ErrorForm)
    (s : S) (i : Input T) (answer : Answer O) (t : S) (j : Input T) → IsEndOf reading j i → t ≡ s
    → does (setting_of form i) s (left_of i) (outcome_of answer (s, left_of j))
    → Ran reading does form s i answer t j
kept_ran {S} reading does form s i answer t j ends kept did =
    let P : S → Type 0 = λ z.
    does (setting_of form i) s (left_of i) (outcome_of answer (z, left_of j)) in
    (ends, ends.cut, ends.ends.possible, subst P (sym kept) did)

-- back at the start of a call
pub at_back : {T : Type 0} {at : Setting} {i m : Input T} → At at i → At at m
    → At at (back_at i.left m)
at_back here there = record { more = there.more; possible = here.possible }
