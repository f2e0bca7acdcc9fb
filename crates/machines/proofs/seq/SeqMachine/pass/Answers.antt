use Rattle.std.proofs.Common.{◌∙◌, inl, inr, length, sym}
use Rattle.std.proofs.lemmas.Bool.{eqb-true, iff_false}
use Rattle.machines.specs.Seqs.{seq_second, seq_stays, seq_turns, seq_waits}
use Rattle.machines.proofs.Bytes.{below}
use Rattle.machines.proofs.seq.SeqMachine.pass.Goals as goal

pub returns-in-Second : goal.returns-in-Second
returns-in-Second g c = seq_second (g.A.Machine.grammar c.args.self.now.0)
    (g.B.Machine.grammar c.args.self.now.1) (g.met.A.Machine.lawful c.args.self.now.0 c.requires.0)
    (g.met.B.Machine.lawful c.args.self.now.1 c.requires.1) c.requires.2
    c.args.at c.in-Second.from c.pass-to.result.0 c.args.bytes.now c.pass-to.result.1.now
    c.in-Second.is c.pass-to.ensures

pub returns-then-is_empty : goal.returns-then-is_empty
returns-then-is_empty g c = seq_waits (g.A.Machine.grammar c.args.self.now.0)
    (g.B.Machine.grammar c.args.self.now.1) (g.met.A.Machine.lawful c.args.self.now.0 c.requires.0)
    (g.met.B.Machine.lawful c.args.self.now.1 c.requires.1) c.requires.2
    c.args.at c.in-First.from c.pass-to-in-First.result.0 c.args.bytes.now
    c.pass-to-in-First.result.1.now c.in-First.is (below c.args.bytes.now c.type_inv.bytes)
    c.pass-to-in-First.ensures
    (inl (eqb-true (length c.pass-to-in-First.result.1.now) 0
    (sym c.is_empty.ensures ∙ c.if-is_empty.true)))

pub returns-else-is_done : goal.returns-else-is_done
returns-else-is_done g c = seq_waits (g.A.Machine.grammar c.args.self.now.0)
    (g.B.Machine.grammar c.args.self.now.1) (g.met.A.Machine.lawful c.args.self.now.0 c.requires.0)
    (g.met.B.Machine.lawful c.args.self.now.1 c.requires.1) c.requires.2
    c.args.at c.in-First.from c.pass-to-in-First.result.0 c.args.bytes.now
    c.pass-to-in-First.result.1.now c.in-First.is (below c.args.bytes.now c.type_inv.bytes)
    c.pass-to-in-First.ensures (inr (iff_false c.is_done.ensures c.if-is_done.false))

pub returns-then-rest-left : goal.returns-then-rest-left
returns-then-rest-left g c = seq_stays (g.A.Machine.grammar c.args.self.now.0)
    (g.B.Machine.grammar c.args.self.now.1) (g.met.A.Machine.lawful c.args.self.now.0 c.requires.0)
    (g.met.B.Machine.lawful c.args.self.now.1 c.requires.1) c.requires.2
    c.args.at c.in-First.from c.pass-to-in-First.result.0 c.start.result c.pass-then.result.0
    c.args.bytes.now c.pass-to-in-First.result.1.now c.pass-then.result.1.now c.in-First.is
    c.start.ensures (below c.args.bytes.now c.type_inv.bytes) c.pass-to-in-First.ensures
    c.pass-then.ensures c.if-rest-left.true

pub returns-then-is_done : goal.returns-then-is_done
returns-then-is_done g c = seq_turns (g.A.Machine.grammar c.args.self.now.0)
    (g.B.Machine.grammar c.args.self.now.1) (g.met.A.Machine.lawful c.args.self.now.0 c.requires.0)
    (g.met.B.Machine.lawful c.args.self.now.1 c.requires.1) c.requires.2
    c.args.at c.in-First.from c.pass-to-in-First.result.0 c.start.result c.pass-then.result.0
    c.args.bytes.now c.pass-to-in-First.result.1.now c.pass-then.result.1.now c.in-First.is
    c.start.ensures (below c.args.bytes.now c.type_inv.bytes) c.pass-to-in-First.ensures
    (c.is_done.ensures.0 c.if-is_done.true) c.pass-then.ensures c.if-rest-left.false
