use Rattle.machines.specs.Nests.{brackets_of}
use Rattle.machines.specs.Turns.{nest_goes}
use Rattle.machines.proofs.Bytes.{below}
use Rattle.machines.proofs.nested.NestedMachine.pass.Goals as goal

pub returns-in-Some : goal.returns-in-Some
returns-in-Some g c = nest_goes (brackets_of c.args.self.now.first c.args.self.now.second)
    (g.A.Machine.grammar c.args.self.now.word)
    (g.met.A.Machine.lawful c.args.self.now.word c.requires.0) c.requires.1
    c.args.self.now.limit c.args.at c.in-Some.from
    c.pass-to.result.0 c.pass_items-in-Some.result.0 c.args.bytes.now c.pass-to.result.1.now
    c.pass_items-in-Some.result.1.now c.in-Some.is (below c.args.bytes.now c.type_inv.bytes)
    c.pass-to.ensures c.pass_items-in-Some.ensures
