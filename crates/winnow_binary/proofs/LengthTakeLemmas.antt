-- A take, as a part of a whole with another state.
use Rattle.std.specs.Prelude.{◌≡◌, ℕ, Bool, true, false, Option, Ok, Err}
use Rattle.std.proofs.Common.{refl, ap, inl, inr, ◌∙◌}
use Rattle.streams.specs.Kind.{backtrack, cut, incomplete, memory}
use Rattle.streams.specs.Reading.{Reading}
use Rattle.stream_errors.specs.Form.{Answer, ErrorForm, modal, plain}
use Rattle.parser_definitions.specs.Left.{End, Left}
use Rattle.parser_definitions.specs.Moved.{in_state}
use Rattle.parser_definitions.specs.Outcome.{Outcome, Setting, lacks, outcome_of}
use Rattle.parser_definitions.specs.Take.{TakeDoes, missing_from}

module _ {S Q T O : Type 0} (s : S) where
  with_state : (answer : Answer O) (q : Q) (end : Left T)
      → ◌≡◌ {A = Outcome (End S T) O} (outcome_of answer (s, end))
      (in_state (λ q. s) (outcome_of answer (q, end)))
  with_state (Ok o) q end = refl
  with_state (Err backtrack) q end = refl
  with_state (Err cut) q end = refl
  with_state (Err (incomplete need)) q end = refl
  with_state (Err memory) q end = refl

  lacks_with : (form : ErrorForm) (more possible : Bool) (need : Option ℕ) (q : Q) (w : Left T)
      → let at : Setting = record { form = form; more = more; possible = possible } in
      ◌≡◌ {A = Outcome (End S T) O} (in_state (λ q. s) (lacks at need (q, w)))
      (lacks at need (s, w))
  lacks_with modal true possible need q w = refl
  lacks_with modal false possible need q w = refl
  lacks_with plain more possible need q w = refl

-- the state of a take is its number of tokens, and that of the whole may be any
pub take_from : {S T L : Type 0} (reading : Reading T L) (counts : Bool) (s : S) (n : ℕ)
    (at : Setting) (w : Left T) (answer : Answer L) (k : ℕ) (end : Left T)
    → TakeDoes reading counts (λ (x : ℕ). x) at n w (outcome_of answer (k, end))
    → TakeDoes reading counts (λ (x : S). n) at s w (outcome_of answer (s, end))
take_from reading counts s n at w answer k end (inl (o, rest, counted, e)) =
    inl (o, rest, counted, with_state s answer k end ∙ ap (in_state (λ q. s)) e)
take_from reading counts s n at w answer k end (inr (few, e)) =
    let need = missing_from reading counts (λ (x : ℕ). x) n w in
    inr (
      few,
      with_state s answer k end ∙ ap (in_state (λ q. s)) e
          ∙ lacks_with s at.form at.more at.possible need n w,
    )
