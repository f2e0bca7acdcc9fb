-- The contracts of calls, by the grammar of the parser.
use Rattle.std.specs.Prelude.{◌≡◌, ◌⊎◌, Bool, false, List, Result, Ok, Err, IfOk, IfErr}
use Rattle.std.specs.Prelude.{MatchResult}
use Rattle.std.proofs.Common.{refl, subst, inl, inr}
use Rattle.streams.specs.Input.{Input, IsEndOf}
use Rattle.streams.specs.Kind.{Kind, backtrack, cut, incomplete, memory}
use Rattle.streams.specs.Reading.{Reading}
use Rattle.grammars.specs.Grammar.{Grammar, NoMatch}
use Rattle.stream_errors.specs.Form.{Answer, ErrorForm, answer_by}
use Rattle.parser_definitions.specs.Does.{Ran}
use Rattle.parser_definitions.specs.Left.{Left, left_of}
use Rattle.parser_definitions.specs.Outcome.{Does, outcome_of}
use Rattle.parser_definitions.specs.Projects.{Agreement, Complete, Projects}
pub mod Same
pub mod Whole

-- The result of a call, in terms of a grammar. It leaves a suffix of its input. On complete input,
-- an output is a match with the remaining tokens; an error is out of memory, or a backtrack of an
-- input that does not start with a match.
pub record Reads {T L O E : Type 0} (reading : Reading T L) (kind : E → Kind)
    (grammar : Grammar T O) (i : Input T) (result : Result O E) (j : Input T) : Type 0 where
  pub ends : IsEndOf reading j i
  pub stands : i.status.cut ≡ false → IfOk result (λ o. grammar i.left.tokens o j.left.tokens)
  pub none : i.status.cut ≡ false → IfErr result (λ e. (kind e ≡ memory)
      ⊎ ((kind e ≡ backtrack) × NoMatch grammar i.left.tokens))

-- On complete input every error is a backtrack, never out of memory.
abbrev pub IsSpared : {T O E : Type 0} → (E → Kind) → Input T → Result O E → Type 0
IsSpared kind i result = i.status.cut ≡ false → IfErr result (λ e. kind e ≡ backtrack)

-- This holds after the call, unless it is out of memory.
abbrev pub UnlessWanted : {O E : Type 0} → (E → Kind) → Result O E → Type 0 → Type 0
UnlessWanted kind result P = MatchResult result (λ o. P) (λ e. (kind e ≡ memory) ⊎ P)

-- ---- calls of a parser whose definition projects to a grammar

module _ {S T L O : Type 0} (reading : Reading T L) {does : Does S T O} (form : ErrorForm)
    {b m : Type 0} {s : S} {g : Grammar T O}
    (projects : (at : Complete) → Projects b m does at s g) (i : Input T) (t : S) (j : Input T)
    (is : i.status.cut ≡ false) where
  -- the outcome of a call on complete input agrees with the grammar
  pub agreement_of : (answer : Answer O) → Ran reading does form s i answer t j
      → Agreement b m s g i.left.tokens (outcome_of answer (t, left_of j))
  agreement_of answer (ends, flag, possible, did) =
      let P : Bool → Type 0 = λ b. does (record {
        form = form;
        more = b;
        possible = i.left.possible;
      }) s (left_of i) (outcome_of answer (t, left_of j)) in
      ((projects (record { form = form; possible = i.left.possible })).reads.agrees (left_of i)
      (outcome_of answer (t, left_of j)) (subst P is did)).is

module _ {S T O : Type 0} (b m : Type 0) (s t : S) (g : Grammar T O) (tokens : List T) (l : Left T)
  where
    kept_error : (k : Kind) → Agreement b m s g tokens (outcome_of (Err k) (t, l))
        → (k ≡ memory) ⊎ (t ≡ s)
    kept_error backtrack (none, kept) = inr kept
    kept_error cut (none, kept, not) = inr kept
    kept_error (incomplete need) never = absurd never
    kept_error memory not = inl refl

    soft_error : b → (k : Kind) → Agreement b m s g tokens (outcome_of (Err k) (t, l))
        → (k ≡ memory) ⊎ ((k ≡ backtrack) × NoMatch g tokens)
    soft_error soft backtrack (none, kept) = inr (refl, none)
    soft_error soft cut (none, kept, not) = absurd (not soft)
    soft_error soft (incomplete need) never = absurd never
    soft_error soft memory not = inl refl

    spared_error : b → m → (k : Kind) → Agreement b m s g tokens (outcome_of (Err k) (t, l))
        → k ≡ backtrack
    spared_error soft spares backtrack a = refl
    spared_error soft spares cut (none, kept, not) = absurd (not soft)
    spared_error soft spares (incomplete need) never = absurd never
    spared_error soft spares memory not = absurd (not spares)

-- ---- the clauses of a call whose outcome on complete input agrees with a grammar

module _ {S T O E : Type 0} (b m : Type 0) (s t : S) (g : Grammar T O) (kind : E → Kind)
    (i : Input T) (j : Input T) where
  pub reads_told : {L : Type 0} (reading : Reading T L) → b → (result : Result O E)
      → IsEndOf reading j i
      → (i.status.cut ≡ false
      → Agreement b m s g i.left.tokens (outcome_of (answer_by kind result) (t, left_of j)))
      → Reads reading kind g i result j
  reads_told reading soft (Ok o) ends a =
      record { ends = ends; stands = λ is. (a is).0; none = λ is. tt }
  reads_told reading soft (Err e) ends a = record {
    ends = ends;
    stands = λ is. tt;
    none = λ is. soft_error b m s t g i.left.tokens (left_of j) soft (kind e) (a is);
  }

  pub spared_told : b → m → (result : Result O E)
      → (i.status.cut ≡ false
      → Agreement b m s g i.left.tokens (outcome_of (answer_by kind result) (t, left_of j)))
      → IsSpared kind i result
  spared_told soft spares (Ok o) a = λ is. tt
  spared_told soft spares (Err e) a =
      λ is. spared_error b m s t g i.left.tokens (left_of j) soft spares (kind e) (a is)

  pub kept_told : (result : Result O E)
      → Agreement b m s g i.left.tokens (outcome_of (answer_by kind result) (t, left_of j))
      → UnlessWanted kind result (t ≡ s)
  kept_told (Ok o) a = a.1
  kept_told (Err e) a = kept_error b m s t g i.left.tokens (left_of j) (kind e) a
