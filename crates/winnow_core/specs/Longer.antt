-- Final results on partial input are those on every longer input, of parsers whose closures change.
use Rattle.std.specs.Prelude.{◌≡◌, ⊤, Bool, true, List, Ok, Err}
use Rattle.std.proofs.Common.{refl, subst}
use Rattle.streams.specs.Input.{Input, with_more}
use Rattle.streams.specs.Kind.{Kind, backtrack, cut, incomplete, memory}
use Rattle.streams.specs.Reading.{Reading}
use Rattle.stream_errors.specs.Form.{Answer, ErrorForm, modal}
use Rattle.winnow_core.specs.Runs.{Runs}
use Rattle.parser_definitions.specs.Does.{Lawful, Ran, gets_of}
use Rattle.parser_definitions.specs.Left.{End, extend, left_of}
use Rattle.parser_definitions.specs.Outcome.{Alike, Does, Outcome, longer}
use Rattle.parser_definitions.specs.Outcome.{outcome_of}
use Rattle.parser_definitions.specs.Outcome as outcomes

-- The kind is neither incomplete nor memory.
abbrev pub IsFinalKind : Kind → Type 0
IsFinalKind backtrack = ⊤
IsFinalKind cut = ⊤
IsFinalKind (incomplete need) = ⊥
IsFinalKind memory = ⊥

-- The result is an output, or an error of such a kind.
abbrev pub IsFinal : {O : Type 0} → Answer O → Type 0
IsFinal (Ok o) = ⊤
IsFinal (Err k) = IsFinalKind k

-- Take a call on partial input, whose tokens can be read, with a final result. Every call on longer
-- input, partial or complete, from the same state has an equal result and the same new state, and
-- leaves the rest followed by the added tokens; or it is out of memory.
pub record SameOnLonger {S T O : Type 0} (run : Runs S T O) (alike : O → O → Type 0) (s : S)
    (i : Input T) (answer : Answer O) (t : S) (j : Input T) : Type 0 where
  pub same : IsFinal answer → (more : List T) (flag : Bool) (other : Answer O) (u : S)
      (k : Input T) → run s (with_more i more flag) other u k
      → Alike {L = End S T} alike (outcome_of answer (t, extend more (left_of j)))
      (outcome_of other (u, left_of k))

-- This of each call on partial input.
abbrev pub EachSameOnLonger : {S T O : Type 0} → Runs S T O → (O → O → Type 0) → Type 0
EachSameOnLonger {S} {T} {O} run alike =
    (s : S) (i : Input T) (answer : Answer O) (t : S) (j : Input T) → i.status.cut ≡ true
    → i.left.possible ≡ true → run s i answer t j → SameOnLonger run alike s i answer t j

longer_outcome : {S T O : Type 0} (more : List T) (a : Answer O) (e : End S T)
    → longer more (outcome_of a e) ≡ outcome_of a (e.0, extend more e.1)
longer_outcome more (Ok o) e = refl
longer_outcome more (Err backtrack) e = refl
longer_outcome more (Err cut) e = refl
longer_outcome more (Err (incomplete need)) e = refl
longer_outcome more (Err memory) e = refl

final_outcome : {L O : Type 0} (a : Answer O) (l : L) → IsFinal a
    → outcomes.IsFinal (outcome_of a l)
final_outcome (Ok o) l final = tt
final_outcome (Err backtrack) l final = tt
final_outcome (Err cut) l final = tt
final_outcome (Err (incomplete need)) l final = absurd final
final_outcome (Err memory) l final = absurd final

-- Each call of a parser whose definition is lawful and stable has this.
pub same_on_longer : {S T L O : Type 0} (reading : Reading T L) {stable : Type 0}
    {alike : O → O → Type 0} {does : Does S T O} → Lawful stable alike does → stable
    → {form : ErrorForm} → form ≡ modal → (s : S) (i : Input T) (answer : Answer O) (t : S)
    (j : Input T) → i.status.cut ≡ true → i.left.possible ≡ true
    → Ran reading does form s i answer t j
    → SameOnLonger (Ran reading does form) alike s i answer t j
same_on_longer {S} {T} {O = O} reading {alike = alike} {does} law is {form} has s i answer t j
    partial may ran =
    let x : Outcome (End S T) O = outcome_of answer (t, left_of j) in
    let gets = gets_of reading law is has s i answer t j partial may ran in
    record {
      same = λ final more flag other u k also.
          let y : Outcome (End S T) O = outcome_of other (u, left_of k) in
          let P : ErrorForm → Bool → Type 0 =
          λ f p. does (record { form = f; more = flag; possible = p }) s (extend more (left_of i)) y
          in
          subst (λ z. Alike alike z y) (longer_outcome more answer (t, left_of j))
          (gets.gets (final_outcome answer (t, left_of j) final) more flag y
          (subst (λ p. P modal p) may (subst (λ f. P f i.left.possible) has also.3)));
    }
