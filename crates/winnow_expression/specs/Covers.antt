-- Expressions of covered parts are covered.
use Rattle.std.specs.Prelude.{◌≡◌}
use Rattle.std.proofs.Common.{refl, sym, subst}
use Rattle.streams.specs.Input.{Input, IsEndOf, back_at, is_end_of_refl, is_end_of_trans}
use Rattle.streams.specs.Reading.{Reading}
use Rattle.stream_errors.specs.Form.{Answer, ErrorForm}
use Rattle.parser_definitions.specs.Does.{Ran}
use Rattle.parser_definitions.specs.Left.{left_of}
use Rattle.parser_definitions.specs.Outcome.{Does, Setting, outcome_of, setting_of}
use Rattle.winnow_core.specs.Settings.{At, at_back, at_end, at_setting, outcome_at}
use Rattle.winnow_core.specs.Runs.{Runs}
use Rattle.winnow_expression.specs.Ending.{Ending, ran_ending}
pub mod Expressions
pub mod Opens
pub mod Parts
pub mod Steps
pub mod Trees

-- An input in the setting of a call, which is a suffix of the one that the call began with.
pub record Within {T L : Type 0} (reading : Reading T L) (at : Setting) (start i : Input T) : Type 0
  where
    pub setting : At at i
    pub ends : IsEndOf reading i start

module _ {T L : Type 0} {reading : Reading T L} {at : Setting} {start : Input T} where
  pub within_end : {i j : Input T} → Within reading at start i → IsEndOf reading j i
      → Within reading at start j
  within_end here e =
      record { setting = at_end here.setting e; ends = is_end_of_trans e here.ends }

  pub within_back : {i m : Input T} → Within reading at start i → Within reading at start m
      → Within reading at start (back_at i.left m)
  within_back here there = record {
    setting = at_back here.setting there.setting;
    ends = record { ends = here.ends.ends; cut = there.ends.cut };
  }

  pub within_same : {i j : Input T} → j ≡ i → Within reading at start i → Within reading at start j
  within_same e here = subst (λ z. Within reading at start z) (sym e) here

-- Within that call, each run has an outcome that the definition allows, and stays within it.
pub record Reads {S T L O : Type 0} (reading : Reading T L) (at : Setting) (start : Input T)
    (run : Runs S T O) (does : Does S T O) : Type 0 where
  pub reads : (s : S) (i : Input T) (a : Answer O) (t : S) (j : Input T)
      → Within reading at start i → run s i a t j
      → does at s (left_of i) (outcome_of a (t, left_of j)) × Within reading at start j

pub ran_reads : {S T L O : Type 0} (reading : Reading T L) (does : Does S T O) (at : Setting)
    (start : Input T) → Reads reading at start (Ran reading does at.form) does
ran_reads reading does at start = record {
  reads = λ s i a t j here r.
      (outcome_at reading does at s i a t j here.setting r, within_end here r.0);
}

pub ending_reads : {S T L O : Type 0} (reading : Reading T L) (does : Does S T O) (at : Setting)
    (start : Input T) → Reads reading at start (Ran reading does at.form) (Ending reading does)
ending_reads reading does at start = record {
  reads = λ s i a t j here r. (
    subst (λ z. Ending reading does z s (left_of i) (outcome_of a (t, left_of j)))
        (at_setting here.setting) (ran_ending reading does at.form s i a t j r),
    within_end here r.0,
  );
}

-- so such a run is a call
pub reads_ran : {S T L O : Type 0} (reading : Reading T L) (form : ErrorForm) {run : Runs S T O}
    {does : Does S T O} (s : S) (i : Input T) (a : Answer O) (t : S) (j : Input T)
    → Reads reading (setting_of form i) i run does → run s i a t j → Ran reading does form s i a t j
reads_ran reading form s i a t j h r =
    let d = h.reads s i a t j (record {
      setting = record { more = refl; possible = refl };
      ends = is_end_of_refl reading i;
    }) r in
    (d.1.ends, d.1.setting.more, d.1.setting.possible, d.0)
