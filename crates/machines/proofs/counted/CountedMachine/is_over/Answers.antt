use Rattle.machines.specs.Counts.{counted_over, counted_open, data_over}
use Rattle.machines.proofs.counted.CountedMachine.is_over.Goals as goal

pub returns-in-Data : goal.returns-in-Data
returns-in-Data g c = data_over (g.N.Number.numerals c.args.self.now.0)
    (g.met.N.Number.lawful c.args.self.now.0 c.requires) c.args.at c.in-Data.more c.in-Data.is

pub returns-in-None : goal.returns-in-None
returns-in-None g c = counted_open (g.N.Number.numerals c.args.self.now.0)
    (g.met.N.Number.lawful c.args.self.now.0 c.requires) c.args.at c.in-Numeral.inner
    c.in-Numeral.is (c.in-None.ensures)

pub returns-in-Some : goal.returns-in-Some
returns-in-Some g c = counted_over (g.N.Number.numerals c.args.self.now.0)
    (g.met.N.Number.lawful c.args.self.now.0 c.requires) c.args.at c.in-Numeral.inner
    c.in-Some.size c.in-Numeral.is (c.in-Some.ensures)
