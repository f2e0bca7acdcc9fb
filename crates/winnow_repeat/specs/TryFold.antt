-- Repetition whose outputs are folded into a value by a closure that may fail.
use Rattle.winnow_repeat.specs.declared.combinator.impls.try_fold.RepeatTryFold.{RepeatTryFold}

-- the closure that folds an output into the value, or fails
abbrev pub try_fold_closure : {P G H I O R E X : Type 0} → RepeatTryFold P G H I O R E X → H
try_fold_closure s = s.op.closure
