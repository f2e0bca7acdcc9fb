-- What the lemmas of combinators share about results: equal ones have equal outcomes, and one that
-- is handed on stays what it is.
use Rattle.std.specs.Prelude.{◌≡◌, Ok, Err}
use Rattle.std.proofs.Common.{refl, sym, subst, ap}
use Rattle.streams.specs.Input.{Input}
use Rattle.streams.specs.Kind.{Kind, backtrack, cut, incomplete, memory}
use Rattle.stream_errors.specs.Form.{Answer}
use Rattle.parser_definitions.specs.Left.{End, Left, left_of}
use Rattle.parser_definitions.specs.Outcome.{Outcome, Setting, outcome_of}
use Rattle.parser_definitions.specs.Then.{Comes, ComesOf}
use Rattle.parser_definitions.specs.Then.Steps.{hands_on, where_took}

-- equal results have equal outcomes
pub gave : {L O : Type 0} {a b : Answer O} (l : L) → a ≡ b → outcome_of a l ≡ outcome_of b l
gave l e = ap (λ a. outcome_of a l) e

-- so have equal remaining inputs
pub left_at : {S T O : Type 0} {i j : Input T} (s : S) (answer : Answer O) → j ≡ i
    → ◌≡◌ {A = Outcome (End S T) O} (outcome_of answer (s, left_of j))
    (outcome_of answer (s, left_of i))
left_at s answer same = ap (λ z. outcome_of answer (s, left_of z)) same

pub pair_is : {A B : Type 0} (t : A × B) (b : B) → t.1 ≡ b → t ≡ (t.0, b)
pair_is {A} {B} t b e = let make : B → A × B = λ y. (t.0, y) in ap make e

-- an error of the child that is the whole's
pub failed : {S Q T O U : Type 0} (put : Q → S → Q) (came : O → Comes S Q T U) (at : Setting)
    (q : Q) (w : Left T) (k : Kind) (end : Left T) (s : S) (other : Q) (a : Answer U) → a ≡ Err k
    → other ≡ put q s
    → ComesOf (where_took put came) at q w (outcome_of (Err k) (s, end))
    (outcome_of a (other, end))
failed {S} {Q} {T} {O} {U} put came at q w k end s other a e f =
    let P : Answer U → Q → Type 0 = λ b r. ComesOf (where_took put came) at q w
    (outcome_of (Err k) (s, end)) (outcome_of b (r, end)) in
    subst (λ b. P b other) (sym e) (subst (λ r. P (Err k) r) (sym f) (plainly k))
  where
    plainly : (k : Kind) → ComesOf (where_took put came) at q w
        (outcome_of (Err k) (s, end)) (outcome_of (Err k) (put q s, end))
    plainly backtrack = refl
    plainly cut = refl
    plainly (incomplete need) = refl
    plainly memory = refl

-- a result of the child that is the whole's
pub handed : {S Q T O : Type 0} (put : Q → S → Q) (at : Setting) (q : Q) (w : Left T)
    (a : Answer O) (s : S) (end : Left T)
    → ComesOf (hands_on put) at q w (outcome_of a (s, end)) (outcome_of a (put q s, end))
handed put at q w (Ok o) s end = refl
handed put at q w (Err backtrack) s end = refl
handed put at q w (Err cut) s end = refl
handed put at q w (Err (incomplete need)) s end = refl
handed put at q w (Err memory) s end = refl
