use Rattle.machines.specs.Alts.{alt_in_left, alt_in_right, alt_left, alt_none, alt_right}
use Rattle.machines.proofs.Bytes.{below}
use Rattle.machines.proofs.alt.AltMachine.pass.Goals as goal

pub returns-in-Left : goal.returns-in-Left
returns-in-Left g c = alt_in_left (g.A.Machine.grammar c.args.self.now.0)
    (g.B.Machine.grammar c.args.self.now.1) (g.met.A.Machine.lawful c.args.self.now.0 c.requires.0)
    (g.met.B.Machine.lawful c.args.self.now.1 c.requires.1) c.requires.2
    c.args.at c.in-Left.from c.pass-to.result.0 c.args.bytes.now c.pass-to.result.1.now
    c.in-Left.is c.pass-to.ensures

pub returns-in-Right : goal.returns-in-Right
returns-in-Right g c = alt_in_right (g.A.Machine.grammar c.args.self.now.0)
    (g.B.Machine.grammar c.args.self.now.1) (g.met.A.Machine.lawful c.args.self.now.0 c.requires.0)
    (g.met.B.Machine.lawful c.args.self.now.1 c.requires.1) c.requires.2
    c.args.at c.in-Right.from c.pass-to-in-Right.result.0 c.args.bytes.now
    c.pass-to-in-Right.result.1.now c.in-Right.is c.pass-to-in-Right.ensures

pub returns-then-left-bytes : goal.returns-then-left-bytes
returns-then-left-bytes g c = alt_none (g.A.Machine.grammar c.args.self.now.0)
    (g.B.Machine.grammar c.args.self.now.1) (g.met.A.Machine.lawful c.args.self.now.0 c.requires.0)
    (g.met.B.Machine.lawful c.args.self.now.1 c.requires.1) c.requires.2
    c.args.at c.start.result c.pass-one.result.0 c.start-then-rest-bytes.result
    c.pass-other.result.0 c.args.bytes.now c.pass-one.result.1.now c.pass-other.result.1.now
    c.in-Neither.is c.start.ensures c.start-then-rest-bytes.ensures c.pass-one.ensures
    c.if-rest-bytes.true c.pass-other.ensures c.if-left-bytes.true

pub returns-then-rest-bytes : goal.returns-then-rest-bytes
returns-then-rest-bytes g c = alt_right (g.A.Machine.grammar c.args.self.now.0)
    (g.B.Machine.grammar c.args.self.now.1) (g.met.A.Machine.lawful c.args.self.now.0 c.requires.0)
    (g.met.B.Machine.lawful c.args.self.now.1 c.requires.1) c.requires.2
    c.args.at c.start-then-rest-bytes.result c.pass-other.result.0 c.args.bytes.now
    c.pass-other.result.1.now c.in-Neither.is c.start-then-rest-bytes.ensures
    (below c.args.bytes.now c.type_inv.bytes) c.pass-other.ensures c.if-left-bytes.false

pub returns-else-rest-bytes : goal.returns-else-rest-bytes
returns-else-rest-bytes g c = alt_left (g.A.Machine.grammar c.args.self.now.0)
    (g.B.Machine.grammar c.args.self.now.1) (g.met.A.Machine.lawful c.args.self.now.0 c.requires.0)
    (g.met.B.Machine.lawful c.args.self.now.1 c.requires.1) c.requires.2
    c.args.at c.start.result c.pass-one.result.0 c.args.bytes.now c.pass-one.result.1.now
    c.in-Neither.is c.start.ensures (below c.args.bytes.now c.type_inv.bytes)
    c.pass-one.ensures c.if-rest-bytes.false
