use Rattle.std.proofs.Common.{length, reverse}
use Rattle.winnow_expression.specs.Calls.{opens_of}
use Rattle.winnow_expression.specs.Grammar.{folding}
use Rattle.streams.specs.Input.{Input, IsEndOf}
use Rattle.stream_errors.specs.Form.{Answer, assert_kind}
use Rattle.winnow_expression.specs.Machine.{AllEnd}
use Rattle.winnow_expression.proofs.combinator.machine.end_all.Given as goal

abbrev pub invariant-operators : goal.invariant-operators
invariant-operators g l =
    ((answer : Answer _) → (j : Input _)
    → AllEnd (folding (g.F.FoldUnary.folds g.E.HasKind.form)
    (g.H.FoldBinary.folds g.E.HasKind.form) g.I.Stream.reading.units
    (assert_kind g.E.HasKind.form))
    (reverse (opens_of l.open.items)) l.value (g.I.Stream.view l.input) answer j
    → AllEnd (folding (g.F.FoldUnary.folds g.E.HasKind.form)
    (g.H.FoldBinary.folds g.E.HasKind.form) g.I.Stream.reading.units
    (assert_kind g.E.HasKind.form))
    (reverse (opens_of l.fn.operators.items)) l.fn.value (g.I.Stream.view l.fn.input) answer j)
    × IsEndOf g.I.Stream.reading (g.I.Stream.view l.input) (g.I.Stream.view l.fn.input)

abbrev pub decreases-operators : goal.decreases-operators
decreases-operators g l = length l.open.items
