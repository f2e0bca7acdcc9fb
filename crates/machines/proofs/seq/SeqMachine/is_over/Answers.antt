use Rattle.machines.specs.Seqs.{seq_over, seq_open, second_over}
use Rattle.machines.proofs.seq.SeqMachine.is_over.Goals as goal

pub returns-then-is_over : goal.returns-then-is_over
returns-then-is_over g c = seq_over (g.A.Machine.grammar c.args.self.now.0)
    (g.B.Machine.grammar c.args.self.now.1) (g.met.A.Machine.lawful c.args.self.now.0 c.requires.0)
    (g.met.B.Machine.lawful c.args.self.now.1 c.requires.1) c.requires.2
    c.args.at c.in-First.first c.start.result c.in-First.is c.start.ensures c.is_over.result
    c.is_over-then-is_over.result c.if-is_over.true c.is_over.ensures
    c.is_over-then-is_over.ensures

pub returns-else-is_over : goal.returns-else-is_over
returns-else-is_over g c = seq_open (g.A.Machine.grammar c.args.self.now.0)
    (g.B.Machine.grammar c.args.self.now.1) (g.met.A.Machine.lawful c.args.self.now.0 c.requires.0)
    (g.met.B.Machine.lawful c.args.self.now.1 c.requires.1) c.requires.2
    c.args.at c.in-First.first c.in-First.is c.is_over.result c.if-is_over.false c.is_over.ensures

pub returns-in-Second : goal.returns-in-Second
returns-in-Second g c = second_over (g.A.Machine.grammar c.args.self.now.0)
    (g.B.Machine.grammar c.args.self.now.1) (g.met.A.Machine.lawful c.args.self.now.0 c.requires.0)
    (g.met.B.Machine.lawful c.args.self.now.1 c.requires.1) c.requires.2
    c.args.at c.in-Second.second c.in-Second.is c.is_over-in-Second.result
    c.is_over-in-Second.ensures
