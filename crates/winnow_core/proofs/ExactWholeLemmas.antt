-- The results of calls and of `parse`, in terms of a grammar.
use Rattle.std.specs.Prelude.{◌≡◌, ℕ, false, List, [], Result, Ok, Err, IfErr}
use Rattle.std.proofs.Common.{subst, sym, inl, inr, ◌∙◌}
use Rattle.streams.specs.Equal.{same_some}
use Rattle.streams.specs.Input.{Input}
use Rattle.streams.specs.Kind.{Kind, backtrack, cut, incomplete, memory}
use Rattle.streams.specs.Reading.{Reading}
use Rattle.streams.specs.declared.needed.Needed.{Needed}
use Rattle.grammars.specs.Grammar.{Grammar, IsUnique}
use Rattle.stream_errors.specs.Fault.{IsFaultAt}
use Rattle.stream_errors.specs.Form.{Answer, ErrorForm, answer_by}
use Rattle.stream_errors.specs.declared.fault.ParseFault.{ParseFault}
use Rattle.stream_errors.specs.declared.fault.ParseFault.TheVariants.{Invalid, Incomplete}
use Rattle.parser_definitions.specs.Does.{Ran}
use Rattle.parser_definitions.specs.Left.{left_of}
use Rattle.parser_definitions.specs.Outcome.{Does, outcome_of}
use Rattle.parser_definitions.specs.Projects.{Agreement, Complete, Projects}
use Rattle.winnow_core.specs.Exact.{IsSpared, Reads, UnlessWanted, agreement_of, kept_told}
use Rattle.winnow_core.specs.Exact.{reads_told, spared_told}
use Rattle.winnow_core.specs.Exact.Whole.{IsWant, ReadsAll}
use Rattle.winnow_core.specs.Parse.{ParsesWhole}

never_memory : {P : Type 0} → ◌≡◌ {A = Kind} backtrack memory → P
never_memory e = absurd (cc)

module _ {I T O X : Type 0} (view : I → Input T) (units : List T → ℕ) (inner_kind : X → Kind)
    {S : Type 0} (b m : Type 0) (s t : S) (g : Grammar T O) (i j : Input T) where
  -- a fault of this kind, if the call failed with it
  pub failed : (k : Kind) (fault : ParseFault I X Needed)
      → Agreement b m s g i.left.tokens (outcome_of (Err k) (t, left_of j))
      → IsFaultAt view units inner_kind i.left j k fault
      → ReadsAll inner_kind g i.left.tokens (Err fault)
  failed backtrack (Invalid e) (none, kept) at =
      record { stands = tt; none = inr (λ o x. none o [] x); whole = tt }
  failed cut (Invalid e) (none, kept, not) at =
      record { stands = tt; none = inr (λ o x. none o [] x); whole = tt }
  failed (incomplete need) (Invalid e) never at = absurd never
  failed memory (Invalid e) not at =
      record { stands = tt; none = inl (sym (same_some at.1)); whole = tt }
  failed backtrack (Incomplete needed) a at = absurd (cc)
  failed cut (Incomplete needed) a at = absurd (cc)
  failed (incomplete need) (Incomplete needed) never at = absurd never
  failed memory (Incomplete needed) a at = absurd (cc)

  pub spared : m → (k : Kind) (fault : ParseFault I X Needed)
      → Agreement b m s g i.left.tokens (outcome_of (Err k) (t, left_of j))
      → IsFaultAt view units inner_kind i.left j k fault → IsWant inner_kind fault → ⊥
  spared spares backtrack (Invalid e) a at wanted = never_memory (same_some at.1 ∙ wanted)
  spared spares cut (Invalid e) a at wanted = never_memory (same_some at.1 ∙ wanted)
  spared spares (incomplete need) (Invalid e) never at wanted = absurd never
  spared spares memory (Invalid e) not at wanted = not spares
  spared spares k (Incomplete needed) a at wanted = wanted

  -- an output that leaves something: no match leaves nothing
  pub left_some : IsUnique g → (o : O) (fault : ParseFault I X Needed)
      → Agreement b m s g i.left.tokens (outcome_of (Ok o) (t, left_of j))
      → (j.left.tokens ≡ [] → ⊥) → IsFaultAt view units inner_kind i.left j backtrack fault
      → ReadsAll inner_kind g i.left.tokens (Err fault)
  left_some unique o (Invalid e) (x, kept) some at = record {
    stands = tt;
    none = inr (λ p y. some (unique.one i.left.tokens o p j.left.tokens [] x y));
    whole = tt;
  }
  left_some unique o (Incomplete needed) a some at = absurd (cc)

  pub left_spared : (fault : ParseFault I X Needed)
      → IsFaultAt view units inner_kind i.left j backtrack fault → IsWant inner_kind fault → ⊥
  left_spared (Invalid e) at wanted = never_memory (same_some at.1 ∙ wanted)
  left_spared (Incomplete needed) at wanted = wanted

-- The result of `parse` of a parser whose definition projects to a grammar.
module _ {I S T L O X : Type 0} (view : I → Input T) (reading : Reading T L)
    (inner_kind : X → Kind) {does : Does S T O} (form : ErrorForm)
    {b m : Type 0} {s : S} {g : Grammar T O}
    (projects : (at : Complete) → Projects b m does at s g) (t : S) (i : Input T) where
  agrees : i.status.cut ≡ false → (answer : Answer O) (j : Input T)
      → Ran reading does form s i answer t j
      → Agreement b m s g i.left.tokens (outcome_of answer (t, left_of j))
  agrees is answer j ran = agreement_of reading form projects i t j is answer ran

  pub all_told : (result : Result O (ParseFault I X Needed)) → i.status.cut ≡ false
      → ParsesWhole view reading.units inner_kind i.left
      (λ answer j. Ran reading does form s i answer t j) result
      → ReadsAll inner_kind g i.left.tokens result
  all_told (Ok o) is (j, r, nothing) =
      let P : List T → Type 0 = λ l. g i.left.tokens o l in
      record { stands = subst P nothing (agrees is (Ok o) j r).0; none = tt; whole = tt }
  all_told (Err fault) is (inl (k, j, r, at)) =
      failed view reading.units inner_kind b m s t g i j k fault (agrees is (Err k) j r) at
  all_told (Err fault) is (inr (o, j, r, some, at)) =
      left_some view reading.units inner_kind b m s t g i j
      (projects (record { form = form; possible = i.left.possible })).unique o fault
      (agrees is (Ok o) j r) some at

  pub all_spared : m → (result : Result O (ParseFault I X Needed)) → i.status.cut ≡ false
      → ParsesWhole view reading.units inner_kind i.left
      (λ answer j. Ran reading does form s i answer t j) result
      → IfErr result (λ fault. IsWant inner_kind fault → ⊥)
  all_spared spares (Ok o) is told = tt
  all_spared spares (Err fault) is (inl (k, j, r, at)) =
      spared view reading.units inner_kind b m s t g i j spares k fault (agrees is (Err k) j r) at
  all_spared spares (Err fault) is (inr (o, j, r, some, at)) =
      left_spared view reading.units inner_kind b m s t g i j fault at

-- The result of a call.
module _ {S T L O E : Type 0} (reading : Reading T L) {does : Does S T O} (form : ErrorForm)
    {b m : Type 0} {s : S} {g : Grammar T O}
    (projects : (at : Complete) → Projects b m does at s g) (kind : E → Kind)
    (t : S) {i j : Input T} (result : Result O E)
    (ran : Ran reading does form s i (answer_by kind result) t j) where
  agreed : i.status.cut ≡ false
      → Agreement b m s g i.left.tokens (outcome_of (answer_by kind result) (t, left_of j))
  agreed is = agreement_of reading form projects i t j is (answer_by kind result) ran

  pub call_reads : b → Reads reading kind g i result j
  call_reads soft = reads_told b m s t g kind i j reading soft result ran.0 agreed

  pub call_spared : b → m → IsSpared kind i result
  call_spared soft spares = spared_told b m s t g kind i j soft spares result agreed

  pub call_keeps : i.status.cut ≡ false → UnlessWanted kind result (t ≡ s)
  call_keeps is = kept_told b m s t g kind i j result (agreed is)
