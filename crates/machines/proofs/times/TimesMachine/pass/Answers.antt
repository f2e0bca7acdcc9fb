use Rattle.machines.specs.Ranges.{times_goes}
use Rattle.machines.proofs.Bytes.{below}
use Rattle.machines.proofs.times.TimesMachine.pass.Goals as goal

pub returns-in-Some : goal.returns-in-Some
returns-in-Some g c = times_goes (g.A.Machine.grammar c.args.self.now.word)
    (g.met.A.Machine.lawful c.args.self.now.word c.requires.0) c.requires.1
    c.requires.2 c.args.self.now.least c.args.self.now.extra c.args.at c.in-Some.from
    c.pass-to.result.0 c.pass_words-in-Some.result.0 c.args.bytes.now c.pass-to.result.1.now
    c.pass_words-in-Some.result.1.now c.in-Some.is (below c.args.bytes.now c.type_inv.bytes)
    c.pass-to.ensures c.pass_words-in-Some.ensures
