-- Lemmas that a part with an error is not a valid part.
use Rattle.std.specs.Prelude.{◌≡◌, ◌⊎◌, ◌≤◌, ◌<◌, ◌+◌, ◌-◌, ◌++◌, ℕ, List, [], ◌∷◌}
use Rattle.std.specs.Prelude.{length, Result}
use Rattle.std.specs.Prelude.{Err, Ok, drop, slice_range, take}
use Rattle.std.specs.Result.{IsErrAnd}
use Rattle.std.proofs.Common.{refl, sym, ap, subst, inl, inr, ◌∙◌, arith, length-append}
use Rattle.std.proofs.Common.{length-drop}
use Rattle.std.proofs.lemmas.List.{length-take-le, take-append-drop, take_all}
use Rattle.format_dns.proofs.FieldLaws.{asked_length}
use Rattle.format_dns.proofs.NameLaws.{invalid_is_no_name, name_end_unique}
use Rattle.format_dns.specs.Names.{SuffixAt}
use Rattle.format_dns.specs.Questions.{AreQuestions, HasNoQuestion, HaveNoQuestions, IsQuestion}
use Rattle.format_dns.specs.Questions.{PartResult, QuestionsLack, ConsecutiveParts}
use Rattle.format_dns.specs.Questions.{ConsecutivePartsFail, NextEntryFails}
use Rattle.format_dns.specs.declared.fault.PartError.{PartError}
use Rattle.format_dns.specs.declared.fault.PartError.TheVariants.{NoMemory}
use Rattle.format_dns.specs.declared.question.Question.{Question}
use Rattle.format_dns.specs.declared.question.Questions.{Questions}

pub part_err : {X : Type 0} (Is : X → Type 0) (Fails : PartError → Type 0) {fault : PartError}
    (r : Result X PartError) → IsErrAnd r (λ y. y ≡ fault)
    → (fault ≡ NoMemory) ⊎ (Fails fault × ((part : X) → Is part → ⊥)) → PartResult Is Fails r
part_err Is Fails (Ok part) is why = elim is [ ]
part_err Is Fails (Err y) is (inl memory) = inl (is ∙ memory)
part_err Is Fails (Err y) is (inr (fails, none)) = inr (subst Fails (sym is) fails, none)

-- ---- lists

module _ {X : Type 0} (Is : ℕ → X → Type 0) (behind : X → ℕ) where
  -- one more after some
  pub rows_push : (parts : List X) (start place : ℕ) (part : X)
      → ConsecutiveParts Is behind start parts place
      → Is place part → ConsecutiveParts Is behind start (parts ++ part ∷ []) (behind part)
  rows_push [] start place part e is =
      let P : ℕ → Type 0 = λ n. Is n part in (subst P e is, refl)
  rows_push (first ∷ parts) start place part (it, rows) is =
      (it, rows_push parts (behind first) place part rows is)

  module _ (one : (start : ℕ) (x y : X) → Is start x → Is start y → behind x ≡ behind y) where
    -- if a shorter and a longer list of parts start at the same offset, the shorter is followed by
    -- another part
    pub rows_next : (parts others : List X) (start place other : ℕ)
        → ConsecutiveParts Is behind start parts place
        → ConsecutiveParts Is behind start others other
        → length parts < length others → (y : X) × Is place y
    rows_next parts [] start place other e f few = absurd (omega (arith, few))
    rows_next [] (y ∷ others) start place other e (b, more) few =
        let P : ℕ → Type 0 = λ n. Is n y in (y, subst P (sym e) b)
    rows_next (x ∷ parts) (y ∷ others) start place other (a, rows) (b, more) few =
        let P : ℕ → Type 0 = λ n. ConsecutiveParts Is behind n parts place in
        rows_next parts others (behind y) place other (subst P (one start x y a b) rows) more
        (omega (arith, few))

    -- where the next fails there are not as many
    pub rows_none : (Fails : ℕ → PartError → Type 0)
        → ((start : ℕ) (fault : PartError) (x : X) → Fails start fault → Is start x → ⊥)
        → (start count : ℕ) (fault : PartError)
        → ConsecutivePartsFail Is behind Fails start count fault
        → (others : List X) (other : ℕ) → ConsecutiveParts Is behind start others other
        → length others ≡ count → ⊥
    rows_none Fails never start count fault (parts, place, rows, few, fails) others other more
        many =
        let (y, is) = rows_next parts others start place other rows more (omega (arith, few, many))
        in never place fault y fails is

    -- equally many end at one offset
    pub rows_end : (parts others : List X) (start place other : ℕ)
        → ConsecutiveParts Is behind start parts place
        → ConsecutiveParts Is behind start others other
        → length parts ≡ length others → place ≡ other
    rows_end [] [] start place other e f same = e ∙ sym f
    rows_end [] (y ∷ others) start place other e (b, more) same = absurd (omega (arith, same))
    rows_end (x ∷ parts) [] start place other (a, rows) f same = absurd (omega (arith, same))
    rows_end (x ∷ parts) (y ∷ others) start place other (a, rows) (b, more) same =
        let P : ℕ → Type 0 = λ n. ConsecutiveParts Is behind n parts place in
        rows_end parts others (behind y) place other (subst P (one start x y a b) rows) more
        (omega (arith, same))

pub lack_fails : {X : Type 0} (Is : ℕ → X → Type 0) (behind : X → ℕ)
    (Fails : ℕ → PartError → Type 0) (start count entry : ℕ) (fault : PartError)
    → NextEntryFails Is behind Fails start count entry fault
    → ConsecutivePartsFail Is behind Fails start count fault
lack_fails Is behind Fails start count entry fault (parts, place, rows, size, few, fails) =
    (parts, place, rows, omega (arith, size, few), fails)

-- ---- questions

pub suffix_from_slice : (message : List ℕ) (place : ℕ) {tokens : List ℕ} → place ≤ length message
    → tokens ≡ slice_range message place (length message) → SuffixAt message place tokens
suffix_from_slice message place enough is = (
  take place message,
  length-take-le place message enough,
  sym (take-append-drop place message)
      ∙ ap (λ l. take place message ++ l) (sym (is
      ∙ take_all (length message - place) (drop place message)
      (omega (arith, length-drop place message)))),
)

pub suffix_length : {message tokens : List ℕ} {place : ℕ} → SuffixAt message place tokens
    → length message ≡ place + length tokens
suffix_length {tokens = tokens} (front, size, e) =
    omega (arith, size, ap (λ l. length l) e, length-append front tokens)

module _ (message : List ℕ) (pointers : ℕ) where
  pub no_question : {A : Type 0} (start : ℕ) (fault : PartError) (question : Question A)
      → HasNoQuestion message pointers start fault → IsQuestion message pointers start question → ⊥
  no_question start fault question (inl none) q =
      invalid_is_no_name message pointers 254 start fault none question.name.labels.items
      question.name.behind
      q.name.0 q.name.1
  no_question start fault question (inr (labels, behind, name, is, short)) q =
      omega (
        arith,
        short,
        suffix_length q.fields_at,
        asked_length q.fields,
        name_end_unique message pointers start labels question.name.labels.items behind
            question.name.behind name.0 q.name.0,
      )

  pub one_question : {A : Type 0} (start : ℕ) (x y : Question A)
      → IsQuestion message pointers start x → IsQuestion message pointers start y
      → x.behind ≡ y.behind
  one_question start x y a b =
      omega (
        arith,
        a.behind,
        b.behind,
        name_end_unique message pointers start x.name.labels.items y.name.labels.items x.name.behind
            y.name.behind a.name.0 b.name.0,
      )

  pub no_questions : {A : Type 0} (start count : ℕ) (fault : PartError) (questions : Questions A)
      → HaveNoQuestions message pointers A start count fault
      → AreQuestions message pointers start count questions → ⊥
  no_questions {A} start count fault questions fails (rows, many) =
      rows_none (λ place (question : Question A). IsQuestion message pointers place question)
      (λ question. question.behind) (λ place x y. one_question place x y)
      (HasNoQuestion message pointers) (λ place f x. no_question place f x) start count fault fails
      questions.list.items questions.behind rows many

  pub fail_questions : {A : Type 0} (start count entry : ℕ) (fault : PartError)
      → QuestionsLack message pointers A start count entry fault
      → HaveNoQuestions message pointers A start count fault
  fail_questions {A} start count entry fault lacks =
      lack_fails (λ place (question : Question A). IsQuestion message pointers place question)
      (λ question. question.behind) (HasNoQuestion message pointers) start count entry fault lacks

  pub lacking_is_no_questions : {A : Type 0} (start count entry : ℕ) (fault : PartError)
      (questions : Questions A) → QuestionsLack message pointers A start count entry fault
      → AreQuestions message pointers start count questions → ⊥
  lacking_is_no_questions {A} start count entry fault questions lacks =
      no_questions start count fault questions (fail_questions start count entry fault lacks)
