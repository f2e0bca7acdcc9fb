-- The laws of definitions, and what a call is.
use Rattle.std.specs.Prelude.{◌≡◌, ℕ, Bool, true, false, List, Option}
use Rattle.std.proofs.Common.{subst}
use Rattle.streams.specs.Input.{Input, IsEndOf}
use Rattle.streams.specs.Reading.{Reading}
use Rattle.stream_errors.specs.Form.{Answer, ErrorForm, modal}
use Rattle.parser_definitions.specs.Left.{End, Left, extend, left_of}
use Rattle.parser_definitions.specs.Outcome.{Alike, Does, IsFinal, Outcome, Setting, alike_wider}
use Rattle.parser_definitions.specs.Outcome.{asks, grown, longer, on_cut, outcome_of, setting_of}

-- A call leaves a suffix of its input, keeps the flag for partial input, and has an outcome that
-- the definition allows.
abbrev pub Ran : {S T L O : Type 0} → Reading T L → Does S T O → ErrorForm → S → Input T
    → Answer O → S → Input T → Type 0
Ran reading does form s i answer t j =
    IsEndOf reading j i × (j.status.cut ≡ i.status.cut) × (j.left.possible ≡ i.left.possible)
    × does (setting_of form i) s (left_of i) (outcome_of answer (t, left_of j))

-- State and input determine the outcome: the result, the new state and what is left. On complete
-- input no outcome is incomplete. A final outcome is unchanged if more tokens follow, whether the
-- input is then complete or not.
pub record Lawful {S T O : Type 0} (stable : Type 0) (alike : O → O → Type 0) (does : Does S T O)
    : Type 0 where
  pub one : (at : Setting) (s : S) (w : Left T) (x y : Outcome (End S T) O) → does at s w x
      → does at s w y → Alike alike x y
  pub whole : (at : Setting) (s : S) (w : Left T) (need : Option ℕ) (end : End S T)
      → at.more ≡ false → does at s w (asks need end) → ⊥
  pub stays : stable → (more : List T) (flag : Bool) (s : S) (w : Left T)
      (x : Outcome (End S T) O) → IsFinal x → does on_cut s w x
      → does (grown flag) s (extend more w) (longer more x)

-- Every longer input, partial or complete, has this outcome if it is final.
pub record Gets {S T O : Type 0} (alike : O → O → Type 0) (does : Does S T O) (s : S) (w : Left T)
    (x : Outcome (End S T) O) : Type 0 where
  pub gets : IsFinal x → (more : List T) (flag : Bool) (y : Outcome (End S T) O)
      → does (grown flag) s (extend more w) y → Alike alike (longer more x) y

-- so does each call on partial input that can be read
pub gets_of : {S T L O : Type 0} (reading : Reading T L) {stable : Type 0} {alike : O → O → Type 0}
    {does : Does S T O} → Lawful stable alike does → stable → {form : ErrorForm} → form ≡ modal
    → (s : S) (i : Input T) (answer : Answer O) (t : S) (j : Input T) → i.status.cut ≡ true
    → i.left.possible ≡ true → Ran reading does form s i answer t j
    → Gets alike does s (left_of i) (outcome_of answer (t, left_of j))
gets_of {S} {T} {O = O} reading {stable} {alike} {does} law is {form} has s i answer t j cut may
    (ends, flag, readable, ran) =
    let x : Outcome (End S T) O = outcome_of answer (t, left_of j) in
    let P : ErrorForm → Bool → Bool → Type 0 =
    λ f b p. does (record { form = f; more = b; possible = p }) s (left_of i) x in
    record {
      gets = λ final more flag y also.
          law.one (grown flag) s (extend more (left_of i)) (longer more x) y
          (law.stays is more flag s (left_of i) x final
          (subst (λ p. P modal true p) may
          (subst (λ b. P modal b i.left.possible) cut
          (subst (λ f. P f i.status.cut i.left.possible) has ran))))
          also;
    }

-- a weaker equality of outputs
pub wider_law : {S T O : Type 0} {stable : Type 0} {alike also : O → O → Type 0}
    {does : Does S T O} → ((o p : O) → alike o p → also o p) → Lawful stable alike does
    → Lawful stable also does
wider_law wider law = record {
  one = λ at s w x y d e.
      alike_wider wider x y (law.one at s w x y d e);
  whole = law.whole;
  stays = law.stays;
}
