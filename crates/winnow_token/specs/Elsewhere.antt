-- Calls of parsers without children, from another state that means the same.
use Rattle.std.specs.Prelude.{◌≡◌, Bool, true, false, List, Option, Ok, Err}
use Rattle.std.proofs.Common.{refl, ap, subst, inl, inr, ◌∙◌}
use Rattle.streams.specs.Input.{Input}
use Rattle.streams.specs.Kind.{backtrack, cut, incomplete, memory}
use Rattle.streams.specs.Reading.{Reading}
use Rattle.stream_errors.specs.Form.{Answer, ErrorForm, modal, plain}
use Rattle.stream_sets.specs.Range.{Bounds}
use Rattle.parser_definitions.specs.Does.{Ran}
use Rattle.parser_definitions.specs.Left.{End, Left, left_of}
use Rattle.parser_definitions.specs.Literal.{LiteralDoes}
use Rattle.parser_definitions.specs.Moved.{in_state}
use Rattle.parser_definitions.specs.Outcome.{Does, Outcome, Setting, lacks_by, misused_by}
use Rattle.parser_definitions.specs.Outcome.{outcome_of, setting_of}
use Rattle.parser_definitions.specs.TakeWhile.{TakeWhileDoes}

-- Each outcome of `does` from `s` is one of `also` from `q`.
abbrev SaysAlso : {S Q T O : Type 0} → Does S T O → Does Q T O → S → Q → Type 0
SaysAlso {S} {Q} {T} {O} does also s q = (at : Setting) (w : Left T) (x : Outcome (End S T) O)
    → does at s w x → also at q w (in_state (λ _. q) x)

outcome_from : {S Q T O : Type 0} (q : Q) (a : Answer O) (e : End S T)
    → in_state (λ _. q) (outcome_of a e) ≡ outcome_of a (q, e.1)
outcome_from q (Ok o) e = refl
outcome_from q (Err backtrack) e = refl
outcome_from q (Err cut) e = refl
outcome_from q (Err (incomplete need)) e = refl
outcome_from q (Err memory) e = refl

lacks_from : {S Q T O : Type 0} (q : Q) (form : ErrorForm) (more : Bool) (need : Option _)
    (e : End S T)
    → ◌≡◌ {A = Outcome (End Q T) O} (in_state (λ _. q) (lacks_by form more need e))
    (lacks_by form more need (q, e.1))
lacks_from q modal true need e = refl
lacks_from q modal false need e = refl
lacks_from q plain more need e = refl

misused_from : {S Q T O : Type 0} (q : Q) (form : ErrorForm) (e : End S T)
    → ◌≡◌ {A = Outcome (End Q T) O} (in_state (λ _. q) (misused_by form e))
    (misused_by form (q, e.1))
misused_from q modal e = refl
misused_from q plain e = refl

ran_also : {S Q T L O : Type 0} (reading : Reading T L) (does : Does S T O) (also : Does Q T O)
    (s : S) (q : Q) → SaysAlso does also s q → (form : ErrorForm) (i : Input T) (a : Answer O)
    (t : S) (j : Input T) → Ran reading does form s i a t j → Ran reading also form q i a q j
ran_also {S} {Q} {T} {O = O} reading does also s q says form i a t j
    (ends, more, possible, did) =
    let P : Outcome (End Q T) O → Type 0 = λ x. also (setting_of form i) q (left_of i) x in (
      ends,
      more,
      possible,
      subst P (outcome_from q a (t, left_of j)) (says (setting_of form i) (left_of i) _ did),
    )

module _ {S Q T L : Type 0} (reading : Reading T L) (s : S) (q : Q) where
  take_while_also : (member : T → Bool → Type 0) (bounds : Bounds)
      → SaysAlso (TakeWhileDoes reading (λ _. member) (λ _. bounds))
      (TakeWhileDoes reading (λ _. member) (λ _. bounds)) s q
  take_while_also member bounds at w x (inl (a, e)) =
      inl (a, ap (λ y. in_state (λ _. q) y) e ∙ misused_from q at.form (s, w))
  take_while_also member bounds at w x (inr (within, inl (a, e))) = inr (
    within,
    inl (a, ap (λ y. in_state (λ _. q) y) e ∙ lacks_from q at.form at.more _ (s, w)),
  )
  take_while_also member bounds at w x (inr (within, inr (inl (o, rest, a, e)))) =
      inr (within, inr (inl (o, rest, a, ap (λ y. in_state (λ _. q) y) e)))
  take_while_also member bounds at w x (inr (within, inr (inr (a, e)))) =
      inr (within, inr (inr (a, ap (λ y. in_state (λ _. q) y) e)))

  pub take_while_from : (member : T → Bool → Type 0) (bounds : Bounds)
      (form : ErrorForm) (i : Input T) (a : Answer L) (t : S) (j : Input T)
      → Ran reading (TakeWhileDoes reading (λ _. member) (λ _. bounds)) form s i a t j
      → Ran reading (TakeWhileDoes reading (λ _. member) (λ _. bounds)) form q i a q j
  take_while_from member bounds = ran_also reading
      (TakeWhileDoes reading (λ _. member) (λ _. bounds))
      (TakeWhileDoes reading (λ _. member) (λ _. bounds)) s q (take_while_also member bounds)

  literal_also : {O : Type 0} (spelled : List T → Type 0) (output : L → O)
      → SaysAlso (LiteralDoes reading (λ _. spelled) (λ _. output))
      (LiteralDoes reading (λ _. spelled) (λ _. output)) s q
  literal_also spelled output at w x (inl (o, rest, a, e)) =
      inl (o, rest, a, ap (λ y. in_state (λ _. q) y) e)
  literal_also spelled output at w x (inr (inl (a, e))) = inr (inl
      (a, ap (λ y. in_state (λ _. q) y) e ∙ lacks_from q at.form at.more _ (s, w)))
  literal_also spelled output at w x (inr (inr (a, e))) =
      inr (inr (a, ap (λ y. in_state (λ _. q) y) e))

  pub literal_from : {O : Type 0} (spelled : List T → Type 0) (output : L → O)
      (form : ErrorForm) (i : Input T) (a : Answer O) (t : S) (j : Input T)
      → Ran reading (LiteralDoes reading (λ _. spelled) (λ _. output)) form s i a t j
      → Ran reading (LiteralDoes reading (λ _. spelled) (λ _. output)) form q i a q j
  literal_from spelled output = ran_also reading (LiteralDoes reading (λ _. spelled) (λ _. output))
      (LiteralDoes reading (λ _. spelled) (λ _. output)) s q (literal_also spelled output)
