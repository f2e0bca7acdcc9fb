-- What the outcomes of parsers without children share.
use Rattle.std.specs.Prelude.{◌≡◌, ℕ, Bool, true, false, List}
use Rattle.std.specs.Prelude.{Option, Err}
use Rattle.std.proofs.Common.{refl, ap, inl, inr, ◌∙◌}
use Rattle.streams.specs.Input.{Input, Passes}
use Rattle.streams.specs.Kind.{Kind, backtrack}
use Rattle.streams.specs.Reading.{Reading}
use Rattle.stream_errors.specs.Form.{ErrorForm, assert_kind, incomplete_kind, modal, plain}
use Rattle.winnow_core.specs.Short.{ShortKind}
use Rattle.parser_definitions.specs.Left.{left_of}
use Rattle.parser_definitions.specs.Outcome.{Outcome, lacks, misused, outcome_of, setting_of}
use Rattle.parser_definitions.specs.Passed.{Passed}
use Rattle.winnow_core.specs.Results.{gave}

pub passed_of : {T L : Type 0} {reading : Reading T L} {front : List T} {i j : Input T}
    → Passes reading front i j
    → Passed reading front (left_of i) (left_of j)
passed_of p = record {
  tokens = p.tokens;
  place = p.place;
  recorded = ap (λ z. z.recorded) p.status;
}

pub short : {L T O : Type 0} (form : ErrorForm) (need : Option ℕ) (i : Input T) (k : Kind) (l : L)
    → ShortKind form need i k
    → ◌≡◌ {A = Outcome L O} (outcome_of (Err k) l) (lacks (setting_of form i) need l)
short {L} {O = O} form need i k l (inl (more, kind)) =
    gave {O = O} l (ap Err kind) ∙ by form i.status.cut more
  where
    by : (form : ErrorForm) (more : Bool) → more ≡ true
        → ◌≡◌ {A = Outcome L O} (outcome_of (Err (incomplete_kind form need)) l)
        (lacks (record { form = form; more = more; possible = i.left.possible }) need l)
    by plain more e = refl
    by modal true e = refl
    by modal false e = absurd (cc)
short {L} {O = O} form need i k l (inr (whole, kind)) = gave {O = O} l (ap Err kind)
    ∙ by form i.status.cut whole
  where
    by : (form : ErrorForm) (more : Bool) → more ≡ false
        → ◌≡◌ {A = Outcome L O} (outcome_of (Err backtrack) l)
        (lacks (record { form = form; more = more; possible = i.left.possible }) need l)
    by plain more e = refl
    by modal false e = refl
    by modal true e = absurd (cc)

pub misuse : {L T O : Type 0} (form : ErrorForm) (i : Input T) (l : L)
    → ◌≡◌ {A = Outcome L O} (outcome_of (Err (assert_kind form)) l) (misused (setting_of form i) l)
misuse plain i l = refl
misuse modal i l = refl
