-- The definition of `repeat`.
use Rattle.std.specs.Prelude.{◌≡◌, None}
use Rattle.stream_sets.specs.Accumulator.{Accumulator}
use Rattle.stream_sets.specs.Range.{Bounds, bounds_of, from_to}
use Rattle.stream_sets.specs.declared.range.Range.{Range}
use Rattle.parser_definitions.specs.Bounded.{Bounded, IfElse, Keyed, bounded_law, capacity_of}
use Rattle.parser_definitions.specs.Bounded.{if_law, keyed_law}
use Rattle.parser_definitions.specs.Consumes.{Item, item_law}
use Rattle.parser_definitions.specs.Does.{Lawful}
use Rattle.parser_definitions.specs.Folding.{Adds, Built, FoldsOne, Folding, Started, adds_family}
use Rattle.parser_definitions.specs.Folding.{gathering, gathers_one, started_family, started_law}
use Rattle.parser_definitions.specs.Items.{Items, items_law}
use Rattle.parser_definitions.specs.Loop.{family_holds, family_meets}
use Rattle.parser_definitions.specs.Outcome.{Does}
use Rattle.parser_definitions.specs.Then.{Then, then_law}
use Rattle.parser_definitions.specs.Then.Steps.{and_then, first, holds_where, meets_where}
use Rattle.parser_definitions.specs.Then.Steps.{where_took, with_first}

module _ {S Q T C O : Type 0} (get : Q → S) (put : Q → S → Q) (f : Folding Q C O)
    (does : Does S T O) where
  -- After the first item of the form `1..`: the initial value is made, the first output is added,
  -- and items follow.
  abbrev pub AfterFirst : O → Does Q T C
  AfterFirst o = Started f None
      (λ c. Adds f (Items get put f (from_to 0 None) (Item does)) (c, o))

  -- The form `1..`: the first item may consume no input.
  abbrev pub OneOrMore : Does Q T C
  OneOrMore = Then get does (where_took put (λ o. and_then put (AfterFirst o)))

  -- The other forms: the initial value is made first.
  abbrev pub Many : Bounds → Does Q T C
  Many bounds = Bounded bounds (Started f (capacity_of bounds.least bounds.greatest)
      (Items get put f bounds (Item does)))

  abbrev pub Repeated : Bounds → Does Q T C
  Repeated bounds = IfElse ((bounds.least ≡ 1) × (bounds.greatest ≡ None)) OneOrMore (Many bounds)

-- Items within a range, into an accumulator.
abbrev pub RepeatDoes : {S T C O : Type 0} → Accumulator C O → Does S T O → Does (S × Range) T C
RepeatDoes into does =
    Keyed (λ q. bounds_of q.1) (Repeated first with_first (gathering into) does)

-- ---- laws

module _ {S Q T C O : Type 0} (get : Q → S) (put : Q → S → Q) {f : Folding Q C O}
    {stable : Type 0} {alike : O → O → Type 0} {does : Does S T O} (p : FoldsOne f alike)
    (law : Lawful stable alike does) where
  pub one_or_more_law : Lawful stable (Built f alike) (OneOrMore get put f does)
  one_or_more_law =
      let after = started_family p None
      (adds_family p.folds (items_law get put p.folds (item_law law) (from_to 0 None))) in
      then_law law (meets_where put (λ o r like. family_meets put after o r like))
      (holds_where put (λ o. family_holds put after o)) (λ is. is)

  pub many_law : (bounds : Bounds) → Lawful stable (Built f alike) (Many get put f does bounds)
  many_law bounds = bounded_law bounds
      (started_law p (capacity_of bounds.least bounds.greatest)
      (items_law get put p.folds (item_law law) bounds))

  pub repeated_law : (bounds : Bounds)
      → Lawful stable (Built f alike) (Repeated get put f does bounds)
  repeated_law bounds =
      if_law ((bounds.least ≡ 1) × (bounds.greatest ≡ None)) one_or_more_law (many_law bounds)

pub repeat_law : {S T C O : Type 0} {stable : Type 0} {alike : O → O → Type 0}
    (into : Accumulator C O) {does : Does S T O} → Lawful stable alike does
    → Lawful stable (Built (gathering {Q = S × Range} into) alike) (RepeatDoes into does)
repeat_law {S} {alike = alike} into law = keyed_law (λ q. bounds_of q.1)
    (repeated_law first with_first (gathers_one into alike) law)
