-- What a call of the parser of a word gives of the rule's definition.
use Rattle.std.specs.Prelude.{◌≡◌, ⊤, ℕ, List, Ok, Err}
use Rattle.std.specs.Borrow.{Bor}
use Rattle.std.proofs.Common.{refl}
use Rattle.example_callers.specs.WordPieces.{LettersDo, WordDoes}
use Rattle.winnow.specs.Counted.{counted_reading}
use Rattle.winnow.specs.Does.{Ran}
use Rattle.winnow.specs.Form.{Answer, ErrorForm}
use Rattle.winnow.specs.Input.{Input}
use Rattle.winnow.specs.Kind.{backtrack, cut, incomplete, memory}
use Rattle.winnow.specs.Left.{End, Left, left_of}
use Rattle.winnow.specs.Moved.{in_state}
use Rattle.winnow.specs.Outcome.{Outcome, outcome_of, setting_of}

-- the outcome with the rule as its state
in_rule : {N T O : Type 0} (n : N) (answer : Answer O) (left : Left T)
    → ◌≡◌ {A = Outcome (End N T) O} (outcome_of answer (n, left))
    (in_state (λ (u : ⊤). n) (outcome_of answer (tt, left)))
in_rule n (Ok o) left = refl
in_rule n (Err backtrack) left = refl
in_rule n (Err cut) left = refl
in_rule n (Err (incomplete need)) left = refl
in_rule n (Err memory) left = refl

pub word_tells : {N : Type 0} (form : ErrorForm) (i : Input ℕ) (answer : Answer (Bor (List ℕ)))
    (j : Input ℕ) → Ran counted_reading LettersDo form tt i answer tt j → (n : N)
    → WordDoes (setting_of form i) n (left_of i) (outcome_of answer (n, left_of j))
unfolding WordDoes
word_tells form i answer j ran n =
    (outcome_of answer (tt, left_of j), ran.3, in_rule n answer (left_of j))
