-- Repetition whose outputs are folded into a value.
use Rattle.stream_sets.specs.Range.{Bounds}
use Rattle.parser_definitions.specs.Closures.{folding_in}
use Rattle.parser_definitions.specs.Consumes.{Item}
use Rattle.parser_definitions.specs.Folding.{Folding}
use Rattle.parser_definitions.specs.Items.{Items}
use Rattle.parser_definitions.specs.Outcome.{Does}
use Rattle.parser_definitions.specs.Then.Steps.{first, second, with_first, with_second}
use Rattle.winnow_repeat.specs.declared.combinator.impls.fold.RepeatFold.{RepeatFold}

-- the closure that folds an output into the value
abbrev pub fold_closure : {P G H I O R E : Type 0} → RepeatFold P G H I O R E → H
fold_closure s = s.op.closure

-- outputs are folded into a value that is made elsewhere
abbrev pub without_start : {H R O : Type 0} → (H → R → O → R → H → Type 0)
    → (H → R → O → H → Type 0) → (H → R → O → Type 0) → Folding H R O
without_start takes rejects grows = record {
  starts = λ h n r k. ⊥;
  takes = takes;
  rejects = rejects;
  start_grows = λ h n. ⊥;
  grows = grows;
}

-- Items are folded into a value: the state is the child's and that of what folds.
abbrev pub FoldsItems : {S H T R O : Type 0} → (H → R → O → R → H → Type 0)
    → (H → R → O → H → Type 0) → (H → R → O → Type 0) → Does S T O → Bounds → R
    → Does (S × H) T R
FoldsItems takes rejects grows does bounds =
    Items first with_first (folding_in second with_second (without_start takes rejects grows))
    bounds (Item does)
