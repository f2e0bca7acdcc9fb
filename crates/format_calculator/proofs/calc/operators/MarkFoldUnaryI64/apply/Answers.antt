use Rattle.std.proofs.Common.{rules}
use Rattle.format_calculator.proofs.Values.{mark_as, mark_only}
use Rattle.format_calculator.proofs.calc.operators.MarkFoldUnaryI64.apply.Goals as goal

pub returns-in-None-clause-folded : goal.returns-in-None-clause-folded
returns-in-None-clause-folded g c =
    mark_as c.args.self.now c.args.operand _ c.factorial_of.result _ _ (search rules depth 1)
    (mark_only c.args.self.now) c.factorial_of.ensures (search rules)
