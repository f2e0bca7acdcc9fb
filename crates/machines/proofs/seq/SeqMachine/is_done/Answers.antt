use Rattle.machines.specs.Seqs.{seq_done, seq_undone}
use Rattle.machines.proofs.seq.SeqMachine.is_done.Goals as goal

pub returns-then-is_done : goal.returns-then-is_done
returns-then-is_done g c = seq_done (g.A.Machine.grammar c.args.self.now.0)
    (g.B.Machine.grammar c.args.self.now.1) (g.met.A.Machine.lawful c.args.self.now.0 c.requires.0)
    (g.met.B.Machine.lawful c.args.self.now.1 c.requires.1) c.requires.2
    c.args.at c.in-First.first c.start.result c.in-First.is c.start.ensures
    c.is_done-then-is_done.result (c.is_done.ensures.0 c.if-is_done.true)
    c.is_done-then-is_done.ensures

pub returns-else-is_done : goal.returns-else-is_done
returns-else-is_done g c = seq_undone (g.A.Machine.grammar c.args.self.now.0)
    (g.B.Machine.grammar c.args.self.now.1) (g.met.A.Machine.lawful c.args.self.now.0 c.requires.0)
    (g.met.B.Machine.lawful c.args.self.now.1 c.requires.1) c.requires.2
    c.args.at c.in-First.first c.in-First.is c.is_done.result c.is_done.ensures
    c.if-is_done.false
