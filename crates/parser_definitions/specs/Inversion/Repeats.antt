-- Calls of `repeat` by those of their items. `at` is the setting.
use Rattle.std.specs.Prelude.{◌≡◌, ◌⊎◌, List, None}
use Rattle.std.specs.List.{FoldsTo}
use Rattle.std.specs.declared.vec.Vec.{Vec}
use Rattle.std.proofs.Common.{subst, inl, inr, arith}
use Rattle.streams.specs.Equal.{none_is_some}
use Rattle.streams.specs.Kind.{Kind}
use Rattle.stream_sets.specs.Accumulator.{Accumulator, list_kept}
use Rattle.stream_sets.specs.Accumulator.Inversion.{list_of_outputs}
use Rattle.stream_sets.specs.Range.{Bounds, IsWithin, bounds_of, from_to}
use Rattle.stream_sets.specs.declared.range.Range.{Range}
use Rattle.parser_definitions.specs.Bounded.{IsEmpty, capacity_of}
use Rattle.parser_definitions.specs.Folding.{Started, gathering}
use Rattle.parser_definitions.specs.Left.{End, Left, back}
use Rattle.parser_definitions.specs.Loop.{LoopDoes}
use Rattle.parser_definitions.specs.Outcome.{Does, Outcome, Setting, backs, misused, took}
use Rattle.parser_definitions.specs.Inversion.Outcomes.{FailsAt}
use Rattle.parser_definitions.specs.Inversion.Turns.{Calls, Failure, IsItem, TurnCases, loop_err}
use Rattle.parser_definitions.specs.Inversion.Turns.{loop_ok}

-- one item or more, which `First` has; or any number: `Repeated`
abbrev pub RepeatCases : {S Q T C O : Type 0} → Accumulator C O → Type 0 → Calls S Q T O
    → (Q → S → Q) → Bounds → Does Q T C
RepeatCases into First Child put bounds at q w y =
    (((bounds.least ≡ 1) × (bounds.greatest ≡ None)) × First)
    ⊎ (((bounds.least ≡ 1) × (bounds.greatest ≡ None) → ⊥)
    × ((IsEmpty bounds × (y ≡ misused at (q, w)))
    ⊎ (IsWithin bounds.greatest bounds.least
    × Started (gathering into) (capacity_of bounds.least bounds.greatest)
    (λ c at q w y. LoopDoes (TurnCases into Child put bounds) at (c, 0) q w y) at q w y)))

module _ {S Q T C O : Type 0} (into : Accumulator C O) (Child : Calls S Q T O) (put : Q → S → Q)
    (at : Setting) where
  -- An output of a repetition of any number: the accumulator of the items, after which one
  -- backtracked; and the input is back before that.
  pub record RepeatedAll (p : End Q T) (all : C) (left : Left T) : Type 0 where
    pub empty : C
    pub outputs : List O
    pub there : End Q T
    -- where the one that backtracked ended
    pub stop : End S T
    pub starts : into.starts None empty
    pub chain : FoldsTo (IsItem Child put at) p outputs there
    pub ended : Child at there.0 there.1 (backs stop)
    pub takes : FoldsTo into.takes empty outputs all
    pub is_back : left ≡ back there.1 stop.1

  -- An error of a repetition of any number: the items before it, and why it failed.
  pub record RepeatedTo (p : End Q T) (k : Kind) (left : Left T) : Type 0 where
    pub outputs : List O
    pub there : End Q T
    pub chain : FoldsTo (IsItem Child put at) p outputs there
    pub failure : Failure into Child put at there k left

module _ {S Q T C O : Type 0} (into : Accumulator C O) {Child : Calls S Q T O} {put : Q → S → Q}
    (at : Setting) {range : Range} {q : Q} {w : Left T}
    (known : range ≡ record { start_inclusive = 0; end_inclusive = None }) where
  pub repeat_any_ok : {First : Type 0} {all : C} {e : End Q T}
      → RepeatCases into First Child put (bounds_of range) at q w (took all e)
      → RepeatedAll into Child put at (q, w) all e.1
  repeat_any_ok {First} {all} {e} did =
      let P : Range → Type 0 = λ r.
      RepeatCases into First Child put (bounds_of r) at q w (took all e) in by (subst P known did)
    where
      by : RepeatCases into First Child put (from_to 0 None) at q w (took all e)
          → RepeatedAll into Child put at (q, w) all e.1
      by (inl (one, first)) = absurd (omega (arith, one.0))
      by (inr (other, inl ((most, full, below), is))) = none_is_some full
      by (inr (other, inr (within, inl (c, u, (starts, same), ran)))) =
          let R : Q → Type 0 =
          λ v. LoopDoes (TurnCases into Child put (from_to 0 None)) at (c, 0) v w
          (took all e) in
          let (outputs, there, stop, chain, folds, ended, reset) =
          loop_ok into Child put at (c, 0) q w (subst R same ran) in
          record {
            empty = c;
            outputs = outputs;
            there = there;
            stop = stop;
            starts = starts;
            chain = chain;
            ended = ended;
            takes = folds;
            is_back = reset;
          }
      by (inr (other, inr (within, inr (grows, is)))) = absurd (cc)

  -- where the accumulator is made without memory
  pub repeat_any_err : {First : Type 0} {y : Outcome (End Q T) C} {k : Kind} {left : Left T}
      → (into.start_grows None → ⊥)
      → RepeatCases into First Child put (bounds_of range) at q w y → FailsAt k left y
      → RepeatedTo into Child put at (q, w) k left
  repeat_any_err {First} {y} {k} {left} free did fails =
      let P : Range → Type 0 = λ r.
      RepeatCases into First Child put (bounds_of r) at q w y in by (subst P known did)
    where
      by : RepeatCases into First Child put (from_to 0 None) at q w y
          → RepeatedTo into Child put at (q, w) k left
      by (inl (one, first)) = absurd (omega (arith, one.0))
      by (inr (other, inl ((most, full, below), is))) = none_is_some full
      by (inr (other, inr (within, inl (c, u, (starts, same), ran)))) =
          let R : Q → Type 0 = λ v.
          LoopDoes (TurnCases into Child put (from_to 0 None)) at (c, 0) v w y in
          let (outputs, there, chain, why) =
          loop_err into Child put at (c, 0) q w y (subst R same ran) fails in
          record { outputs = outputs; there = there; chain = chain; failure = why }
      by (inr (other, inr (within, inr (grows, is)))) = absurd (free grows)

-- into a list: its items are the outputs, in order
pub repeated_list : {S Q T O A : Type 0} {Child : Calls S Q T O} {put : Q → S → Q} {at : Setting}
    {p : End Q T} {all : Vec O A} {left : Left T}
    (told : RepeatedAll list_kept Child put at p all left) → all.items ≡ told.outputs
repeated_list {all = all} told =
    list_of_outputs told.outputs told.empty all told.starts told.takes
