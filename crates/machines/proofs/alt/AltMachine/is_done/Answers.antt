use Rattle.std.proofs.lemmas.Bool.{iff_false}
use Rattle.machines.specs.Alts.{alt_other, alt_yes}
use Rattle.machines.proofs.alt.AltMachine.is_done.Goals as goal

pub returns-then-is_done : goal.returns-then-is_done
returns-then-is_done g c = alt_yes (g.A.Machine.grammar c.args.self.now.0)
    (g.B.Machine.grammar c.args.self.now.1) (g.met.A.Machine.lawful c.args.self.now.0 c.requires.0)
    (g.met.B.Machine.lawful c.args.self.now.1 c.requires.1) c.requires.2
    c.args.at c.start.result c.in-Neither.is c.start.ensures c.is_done-in-Neither.result
    c.if-is_done.true
    (c.is_done-in-Neither.ensures.0 c.if-is_done.true)

pub returns-else-is_done : goal.returns-else-is_done
returns-else-is_done g c = alt_other (g.A.Machine.grammar c.args.self.now.0)
    (g.B.Machine.grammar c.args.self.now.1) (g.met.A.Machine.lawful c.args.self.now.0 c.requires.0)
    (g.met.B.Machine.lawful c.args.self.now.1 c.requires.1) c.requires.2
    c.args.at c.start.result c.start-else-is_done.result c.in-Neither.is c.start.ensures
    c.start-else-is_done.ensures c.is_done-else-is_done.result
    (iff_false c.is_done-in-Neither.ensures c.if-is_done.false) c.is_done-else-is_done.ensures
