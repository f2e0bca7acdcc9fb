-- Calls of a parser that is covered by a lawful definition.
use Rattle.std.specs.Prelude.{◌≡◌, ◌⊎◌, ℕ, false, List, Result, Ok, Err}
use Rattle.std.proofs.Common.{refl, sym, ap, inl, inr, ◌∙◌}
use Rattle.streams.specs.Equal.{same_some}
use Rattle.streams.specs.Input.{Input}
use Rattle.streams.specs.Kind.{Kind, backtrack, cut, incomplete, memory}
use Rattle.streams.specs.Reading.{Reading}
use Rattle.streams.specs.declared.needed.Needed.{Needed}
use Rattle.stream_errors.specs.Fault.{IsFaultAt}
use Rattle.stream_errors.specs.Form.{Answer, ErrorForm, inner_kind_of}
use Rattle.stream_errors.specs.declared.fault.ParseFault.{ParseFault}
use Rattle.stream_errors.specs.declared.fault.ParseFault.TheVariants.{Invalid, Incomplete}
use Rattle.parser_definitions.specs.Does.{Lawful, Ran}
use Rattle.parser_definitions.specs.Left.{left_of}
use Rattle.parser_definitions.specs.Outcome.{Does, outcome_of, setting_of, took}
use Rattle.parser_definitions.specs.Outcome.{wants}
use Rattle.winnow_core.specs.Exact.Whole.{IsWant}
use Rattle.winnow_core.specs.Parse.{ParsesWhole}
use Rattle.winnow_core.specs.Tells.{IsFaultBefore, Tells, TellsAll}

pub tells_of : {S T L O : Type 0} (reading : Reading T L) {does : Does S T O} {stable : Type 0}
    {alike : O → O → Type 0} → Lawful stable alike does → (form : ErrorForm) (s : S) (i : Input T)
    (answer : Answer O) (t : S) (j : Input T) → Ran reading does form s i answer t j
    → Tells reading alike does form s i answer t j
tells_of reading law form s i answer t j ran = record {
  ran = ran;
  only = λ y also. law.one (setting_of form i) s (left_of i) (outcome_of answer (t, left_of j)) y
      ran.3 also;
}

module _ {I T X : Type 0} (view : I → Input T) (units : List T → ℕ) (inner_kind : X → Kind)
    (i j : Input T) where
  -- the error of a kind that neither needs memory nor more input
  before : (k : Kind) (fault : ParseFault I X Needed) → (k ≡ backtrack) ⊎ (k ≡ cut)
      → IsFaultAt view units inner_kind i.left j k fault
      → IsFaultBefore units inner_kind i.left.tokens j.left.tokens fault
  before k (Invalid e) (inl is) (at, kinds, back) =
      (at, sym (same_some (sym (ap inner_kind_of is) ∙ kinds)))
  before k (Invalid e) (inr is) (at, kinds, back) =
      (at, sym (same_some (sym (ap inner_kind_of is) ∙ kinds)))
  before k (Incomplete needed) (inl is) at = absurd (cc)
  before k (Incomplete needed) (inr is) at = absurd (cc)

  out_of_memory : (fault : ParseFault I X Needed)
      → IsFaultAt view units inner_kind i.left j memory fault → IsWant inner_kind fault
  out_of_memory (Invalid e) (at, kinds, back) = sym (same_some kinds)
  out_of_memory (Incomplete needed) at = absurd (cc)

  failed : {S L O : Type 0} (reading : Reading T L) {does : Does S T O} {stable : Type 0}
      {alike : O → O → Type 0} → Lawful stable alike does → (form : ErrorForm) (s t : S)
      → i.status.cut ≡ false → (k : Kind) (fault : ParseFault I X Needed)
      → Ran reading does form s i (Err k) t j
      → IsFaultAt view units inner_kind i.left j k fault
      → TellsAll units inner_kind alike does form s i t (Err fault)
  failed reading law form s t whole backtrack fault (ends, flag, possible, did) at =
      record {
        outcome = outcome_of (Err backtrack) (t, left_of j);
        told = did;
        only = λ y also. law.one (setting_of form i) s (left_of i)
            (outcome_of (Err backtrack) (t, left_of j)) y did also;
        parsed = (before backtrack fault (inl refl) at, refl);
      }
  failed reading law form s t whole cut fault (ends, flag, possible, did) at =
      record {
        outcome = outcome_of (Err cut) (t, left_of j);
        told = did;
        only = λ y also. law.one (setting_of form i) s (left_of i)
            (outcome_of (Err cut) (t, left_of j)) y did also;
        parsed = (before cut fault (inr refl) at, refl);
      }
  failed reading law form s t whole (incomplete need) fault (ends, flag, possible, did) at =
      absurd (law.whole (setting_of form i) s (left_of i) need (t, left_of j) whole did)
  failed reading law form s t whole memory fault (ends, flag, possible, did) at =
      record {
        outcome = wants;
        told = did;
        only = λ y also. law.one (setting_of form i) s (left_of i) wants y did also;
        parsed = out_of_memory fault at;
      }

pub all_outcome : {S I T L O X : Type 0} (reading : Reading T L) {does : Does S T O}
    {stable : Type 0} {alike : O → O → Type 0} → Lawful stable alike does → (view : I → Input T)
    (inner_kind : X → Kind) (form : ErrorForm) (s t : S) (i : Input T)
    (result : Result O (ParseFault I X Needed)) → i.status.cut ≡ false
    → ParsesWhole view reading.units inner_kind i.left
    (λ answer j. Ran reading does form s i answer t j) result
    → TellsAll reading.units inner_kind alike does form s i t result
all_outcome reading law view inner_kind form s t i (Ok o) whole
    (j, (ends, flag, possible, did), nothing) = record {
      outcome = took o (t, left_of j);
      told = did;
      only = λ y also. law.one (setting_of form i) s (left_of i) (took o (t, left_of j)) y did also;
      parsed = (refl, nothing, refl);
    }
all_outcome reading law view inner_kind form s t i (Err fault) whole (inl (k, j, ran, at)) =
    failed view reading.units inner_kind i j reading law form s t whole k fault ran at
all_outcome reading law view inner_kind form s t i (Err fault) whole
    (inr (o, j, (ends, flag, possible, did), some, at)) = record {
      outcome = took o (t, left_of j);
      told = did;
      only = λ y also. law.one (setting_of form i) s (left_of i) (took o (t, left_of j)) y did also;
      parsed = (some, before view reading.units inner_kind i j backtrack fault (inl refl) at, refl);
    }
