-- The result of a parser of words on partial input.
use Rattle.std.specs.Prelude.{◌≡◌, ℕ, Bool, true, false, List, Ok, Err}
use Rattle.std.proofs.Common.{sym, subst, ap, ◌∙◌, inl, inr}
use Rattle.machines.specs.Grammar.{FirstInvalid}
use Rattle.machines.specs.Languages.{Language}
use Rattle.streams.specs.Equal.{true_is_false}
use Rattle.streams.specs.Input.{Input}
use Rattle.streams.specs.Kind.{backtrack, cut, incomplete, memory}
use Rattle.streams.specs.Reading.{Reading}
use Rattle.stream_errors.specs.Form.{Answer, modal}
use Rattle.parser_definitions.specs.Does.{Ran}
use Rattle.parser_definitions.specs.Inversion.Outcomes.{same_took}
use Rattle.parser_definitions.specs.Left.{left_of}
use Rattle.parser_definitions.specs.Outcome.{Outcome, backs, outcome_of}
use Rattle.winnow_machines.specs.Word.{IsProperPrefix, IsWord, WordDoes}

-- The longest word, which no longer input changes; or no word continues with some byte, and nothing
-- is consumed; or some longer input is a word.
abbrev pub WordRead : {S : Type 0} → Reading ℕ S → Language → List ℕ → Answer S → List ℕ → Type 0
WordRead reading L tokens (Ok slice) rest =
    (front : List ℕ) × IsWord L true tokens front rest × reading.shows slice front
WordRead reading L tokens (Err backtrack) rest =
    ((n : ℕ) × FirstInvalid L tokens n) × (rest ≡ tokens)
WordRead reading L tokens (Err cut) rest = ⊥
WordRead reading L tokens (Err (incomplete need)) rest = IsProperPrefix L tokens
WordRead reading L tokens (Err memory) rest = ⊥

same_backs : {L O : Type 0} {a b : L} → ◌≡◌ {A = Outcome L O} (backs a) (backs b) → a ≡ b
same_backs e = cc

module _ {X S : Type 0} (reading : Reading ℕ S) (language : X → Language) (x t : X)
    (i j : Input ℕ) where
  pub word_read : (a : Answer S) → i.status.cut ≡ true
      → Ran reading (WordDoes reading language) modal x i a t j
      → WordRead reading (language x) i.left.tokens a j.left.tokens
  word_read a is (ends, flag, possible, did) = by a i.status.cut is did
    where
      by : (a : Answer S) (more : Bool) → more ≡ true
          → WordDoes reading language
          (record { form = modal; more = more; possible = i.left.possible }) x (left_of i)
          (outcome_of a (t, left_of j))
          → WordRead reading (language x) i.left.tokens a j.left.tokens
      by (Ok slice) more is (inl (o, rest, (f, one, shown, p), e)) =
          let (same, end) = same_took e in
          let P : Bool → List ℕ → Type 0 = λ b l. IsWord (language x) b i.left.tokens f l in (
            f,
            subst (λ l. P true l) (sym (ap (λ l. l.1.tokens) end))
                (subst (λ b. P b rest.tokens) is one),
            subst (λ v. reading.shows v f) (sym same) shown,
          )
      by (Ok slice) true is (inr (inl (longer, e))) = absurd (cc)
      by (Ok slice) false is (inr (inl (longer, e))) = true_is_false (sym is)
      by (Ok slice) more is (inr (inr (none, e))) = absurd (cc)
      by (Err backtrack) more is (inl (o, rest, it, e)) = absurd (cc)
      by (Err backtrack) true is (inr (inl (longer, e))) = absurd (cc)
      by (Err backtrack) false is (inr (inl (longer, e))) = true_is_false (sym is)
      by (Err backtrack) more is (inr (inr (inl bad, e))) =
          (bad, ap (λ l. l.1.tokens) (same_backs e))
      by (Err backtrack) more is (inr (inr (inr (whole, not, longer), e))) =
          true_is_false (sym is ∙ whole)
      by (Err cut) more is (inl (o, rest, it, e)) = absurd (cc)
      by (Err cut) true is (inr (inl (longer, e))) = absurd (cc)
      by (Err cut) false is (inr (inl (longer, e))) = true_is_false (sym is)
      by (Err cut) more is (inr (inr (none, e))) = absurd (cc)
      by (Err (incomplete need)) more is (inl (o, rest, it, e)) = absurd (cc)
      by (Err (incomplete need)) more is (inr (inl ((longer, m), e))) = longer
      by (Err (incomplete need)) more is (inr (inr (none, e))) = absurd (cc)
      by (Err memory) more is (inl (o, rest, it, e)) = absurd (cc)
      by (Err memory) true is (inr (inl (longer, e))) = absurd (cc)
      by (Err memory) false is (inr (inl (longer, e))) = true_is_false (sym is)
      by (Err memory) more is (inr (inr (none, e))) = absurd (cc)
