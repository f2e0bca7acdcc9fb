-- Repetition whose outputs are folded into a value, where each may be refused.
use Rattle.winnow_repeat.specs.declared.combinator.impls.verify_fold.RepeatVerifyFold.{
  RepeatVerifyFold,
}

-- the closure that folds an output into the value, or rejects it
abbrev pub verify_fold_closure : {P G H I O R E : Type 0} → RepeatVerifyFold P G H I O R E → H
verify_fold_closure s = s.op.closure
