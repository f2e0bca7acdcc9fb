use Rattle.machines.specs.Alts.{alt_open, alt_over, left_over, right_over}
use Rattle.machines.proofs.alt.AltMachine.is_over.Goals as goal

pub returns-in-Left : goal.returns-in-Left
returns-in-Left g c = left_over (g.A.Machine.grammar c.args.self.now.0)
    (g.B.Machine.grammar c.args.self.now.1) (g.met.A.Machine.lawful c.args.self.now.0 c.requires.0)
    (g.met.B.Machine.lawful c.args.self.now.1 c.requires.1) c.requires.2
    c.args.at c.in-Left.left c.in-Left.is c.is_over.result c.is_over.ensures

pub returns-in-Right : goal.returns-in-Right
returns-in-Right g c = right_over (g.A.Machine.grammar c.args.self.now.0)
    (g.B.Machine.grammar c.args.self.now.1) (g.met.A.Machine.lawful c.args.self.now.0 c.requires.0)
    (g.met.B.Machine.lawful c.args.self.now.1 c.requires.1) c.requires.2
    c.args.at c.in-Right.right c.in-Right.is c.is_over-in-Right.result
    c.is_over-in-Right.ensures

pub returns-then-is_over : goal.returns-then-is_over
returns-then-is_over g c = alt_over (g.A.Machine.grammar c.args.self.now.0)
    (g.B.Machine.grammar c.args.self.now.1) (g.met.A.Machine.lawful c.args.self.now.0 c.requires.0)
    (g.met.B.Machine.lawful c.args.self.now.1 c.requires.1) c.requires.2
    c.args.at c.start.result c.start-then-is_over.result c.in-Neither.is c.start.ensures
    c.start-then-is_over.ensures c.is_over-in-Neither.result c.is_over-then-is_over.result
    c.if-is_over.true c.is_over-in-Neither.ensures c.is_over-then-is_over.ensures

pub returns-else-is_over : goal.returns-else-is_over
returns-else-is_over g c = alt_open (g.A.Machine.grammar c.args.self.now.0)
    (g.B.Machine.grammar c.args.self.now.1) (g.met.A.Machine.lawful c.args.self.now.0 c.requires.0)
    (g.met.B.Machine.lawful c.args.self.now.1 c.requires.1) c.requires.2
    c.args.at c.start.result c.in-Neither.is c.start.ensures c.is_over-in-Neither.result
    c.if-is_over.false c.is_over-in-Neither.ensures
