use Rattle.machines.specs.Stars.{star_begins, star_goes}
use Rattle.machines.proofs.Bytes.{below}
use Rattle.machines.proofs.star.pass_all.Goals as goal

pub returns-in-None : goal.returns-in-None
returns-in-None g c = star_begins (g.A.Machine.grammar c.args.machine.now)
    (g.met.A.Machine.lawful c.args.machine.now c.requires.sound) c.requires.filled
    c.requires.disjoint
    c.args.at c.pass_words.result.0 c.args.bytes.now c.pass_words.result.1.now c.in-None.is
    c.pass_words.ensures

pub returns-in-Some : goal.returns-in-Some
returns-in-Some g c = star_goes (g.A.Machine.grammar c.args.machine.now)
    (g.met.A.Machine.lawful c.args.machine.now c.requires.sound) c.requires.filled
    c.requires.disjoint
    c.args.at c.in-Some.from c.pass-to.result.0 c.pass_words-in-Some.result.0 c.args.bytes.now
    c.pass-to.result.1.now c.pass_words-in-Some.result.1.now c.in-Some.is
    (below c.args.bytes.now c.type_inv.bytes) c.pass-to.ensures c.pass_words-in-Some.ensures
