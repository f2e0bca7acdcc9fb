-- Grammars of `repeat` and `fold`.
use Rattle.std.specs.Prelude.{◌≡◌, ℕ, List, [], ◌∷◌, length, None}
use Rattle.std.proofs.Common.{refl, sym, subst, inl, inr, arith}
use Rattle.streams.specs.Equal.{none_is_some}
use Rattle.stream_sets.specs.Accumulator.{Accumulator, Wants}
use Rattle.stream_sets.specs.Accumulator.Holds.{Holds}
use Rattle.stream_sets.specs.Range.{Bounds, IsBelow, IsWithin, bounds_of, from_to}
use Rattle.stream_sets.specs.declared.range.Range.{Range}
use Rattle.grammars.specs.Grammar.{Gathered, Grammar, Many, NoMatch, Repeated, Stops}
use Rattle.grammars.specs.Grammar.{TakesTokens}
use Rattle.grammars.specs.Grammar.Folded.{Folded, StaysFolding, StaysMaking}
use Rattle.grammars.specs.Grammar.Unique.{gathered_unique, many_unique}
use Rattle.parser_definitions.specs.Bounded.{IsEmpty, capacity_of, not_empty}
use Rattle.parser_definitions.specs.Consumes.{Item}
use Rattle.parser_definitions.specs.Fold.{FoldDoes, closures, with_closures}
use Rattle.parser_definitions.specs.Folding.{Adds, Folding}
use Rattle.parser_definitions.specs.Items.{Items}
use Rattle.parser_definitions.specs.Left.{End, Left}
use Rattle.parser_definitions.specs.Outcome.{Does, Outcome}
use Rattle.parser_definitions.specs.Projects.{Complete, Judged, Projects, Reads}
use Rattle.parser_definitions.specs.Projects.{complete, judged_as, reads_cases, reads_given}
use Rattle.parser_definitions.specs.Projects.{reads_misused}
use Rattle.parser_definitions.specs.Projects.Repeats.{AddsMany, Collects, TooFew}
use Rattle.parser_definitions.specs.Projects.Repeats.{folding_collects, gathering_collects}
use Rattle.parser_definitions.specs.Projects.Repeats.{added_judged, item_reads, items_judged}
use Rattle.parser_definitions.specs.Projects.Repeats.{started_judged}
use Rattle.parser_definitions.specs.Projects.Then.{ComesReads, then_reads, where_reads}
use Rattle.parser_definitions.specs.Repeat.{AfterFirst, Many as ManyDo, OneOrMore, RepeatDoes}
use Rattle.parser_definitions.specs.Repeat.{Repeated as RepeatedDoes}
use Rattle.parser_definitions.specs.Then.Steps.{and_then, first, with_first}

module _ {S Q T C X : Type 0} {b1 b m : Type 0} (get : Q → S) (put : Q → S → Q)
    {f : Folding Q C X} {does : Does S T X} {at : Complete} {q : Q}
    {step : C → X → C → Type 0} {holds : C → List X → Type 0} {g : Grammar T X}
    (p : Projects b1 m does at (get q) g) (soft : b1) (some : TakesTokens g)
    (same : put q (get q) ≡ q) (k : Collects m f q step holds) (bounds : Bounds) where
  items : (bounds : Bounds) → IsWithin bounds.greatest bounds.least → (c : C) (w : Left T)
      (y : Outcome (End Q T) C) → Items get put f bounds (Item does) c (complete at) q w y
      → Judged b m q (AddsMany step g bounds c) (TooFew g bounds.least) w.tokens y
  items bounds within =
      items_judged get put (item_reads p.reads some) soft p.unique same k bounds within

  -- the initial value is made first
  pub many_reads : IsWithin bounds.greatest bounds.least
      → Reads b m (ManyDo get put f does bounds) at q (Gathered holds (Many g bounds))
  unfolding Gathered Many
  many_reads within =
      reads_cases (reads_misused (λ s. IsEmpty bounds) (λ e. not_empty bounds e within))
      (reads_given (λ s. IsWithin bounds.greatest bounds.least) (λ is. record {
        agrees = λ w y. started_judged k (Items get put f bounds (Item does)) w y
            (capacity_of bounds.least bounds.greatest) (λ c held a.
            judged_as (λ all rest (os, adds, many). (os, held all os adds, many))
            (λ few all rest (os, holds_, (each, least, stops)).
            absurd (omega (arith, few os rest each, least))) (items bounds within c w y a));
      }))

  -- the first item of the form `1..`
  first_reads : bounds.least ≡ 1 → bounds.greatest ≡ None
      → Reads b m (OneOrMore get put f does) at q (Gathered holds (Many g bounds))
  unfolding Gathered Many
  first_reads one none = then_reads p.reads (where_reads put same (λ b. soft) no_first others)
    where
      Rest : C → Does Q T C
      Rest = Items get put f (from_to 0 None) (Item does)

      no_first : (w : Left T) → NoMatch g w.tokens
          → NoMatch (Gathered holds (Many g bounds)) w.tokens
      no_first w nothing all rest ([], held, (each, least, stops)) = omega (arith, one, least)
      no_first w nothing all rest (o ∷ os, held, ((mid, x, each), least, stops)) =
          nothing o mid x

      stopped : (n k : ℕ) (rest : List T) → Stops g None n rest → Stops g bounds.greatest k rest
      stopped n k rest (inl full) = none_is_some full
      stopped n k rest (inr (below, nor)) =
          inr (subst (λ b. IsBelow b k) (sym none) tt, nor)

      others : (w : Left T) (o : X) (left : Left T) → g w.tokens o left.tokens
          → ComesReads b m (and_then put (AfterFirst get put f does o)) at q
          (Gathered holds (Many g bounds)) w (get q, left)
      others w o left x = record {
        agrees = λ y came. started_judged k (λ c. Adds f Rest (c, o)) left y None
            (λ c held. added_judged k Rest left y c o
            (λ d add a. judged_as (λ all rest (os, adds, (each, least, stops)). (
              o ∷ os,
              held all (o ∷ os) (d, add, adds),
              (
                (left.tokens, x, each),
                omega (arith, one),
                stopped (length os) (length (o ∷ os)) rest stops,
              ),
            ))
            (λ few all rest is. absurd (omega (arith, few [] left.tokens refl)))
            (items (from_to 0 None) tt d left y a)))
            (subst (λ z. AfterFirst get put f does o (complete at) z left y) same came);
      }

  pub repeated_projects : IsWithin bounds.greatest bounds.least
      → Projects b m (RepeatedDoes get put f does bounds) at q (Gathered holds (Many g bounds))
  repeated_projects within = record {
    reads = reads_cases
        (reads_given (λ s. (bounds.least ≡ 1) × (bounds.greatest ≡ None))
        (λ is. first_reads is.0 is.1))
        (reads_given (λ s. (bounds.least ≡ 1) × (bounds.greatest ≡ None) → ⊥)
        (λ is. many_reads within));
    unique = gathered_unique holds (many_unique p.unique bounds);
  }

module _ {S T X : Type 0} {b1 b m : Type 0} {does : Does S T X} {at : Complete} where
  pub repeat_projects : {C : Type 0} (into : Accumulator C X) {holds : C → List X → Type 0}
      {q : S × Range} {g : Grammar T X} → Holds into holds → (m → Wants into → ⊥)
      → Projects b1 m does at q.0 g → b1 → TakesTokens g
      → IsWithin (bounds_of q.1).greatest (bounds_of q.1).least
      → Projects b m (RepeatDoes into does) at q (Repeated holds q.1 g)
  repeat_projects into {q = q} keeps spare p soft some within =
      let all = repeated_projects first with_first p soft some refl
      (gathering_collects into keeps spare) (bounds_of q.1) within in
      record { reads = record { agrees = all.reads.agrees }; unique = all.unique }

  pub fold_projects : {G H R : Type 0} (starts : G → R → G → Type 0)
      (step : H → R → X → R → H → Type 0) {q : S × (Range × (G × H))} {g : Grammar T X}
      → Projects b1 m does at q.0 g → b1 → TakesTokens g
      → IsWithin (bounds_of q.1.0).greatest (bounds_of q.1.0).least
      → StaysMaking starts q.1.1.0 → StaysFolding step q.1.1.1
      → Projects b m (FoldDoes starts step does) at q
      (Folded starts q.1.1.0 step q.1.1.1 q.1.0 g)
  fold_projects starts step {q} p soft some within makes folds =
      let all = repeated_projects first with_first p soft some refl
      (folding_collects closures with_closures refl makes folds) (bounds_of q.1.0) within in
      record { reads = record { agrees = all.reads.agrees }; unique = all.unique }
