use Rattle.machines.specs.Counts.{counted_done, counted_undone, data_done}
use Rattle.machines.proofs.counted.CountedMachine.is_done.Goals as goal

pub returns-in-Data : goal.returns-in-Data
returns-in-Data g c = data_done (g.N.Number.numerals c.args.self.now.0)
    (g.met.N.Number.lawful c.args.self.now.0 c.requires) c.args.at c.in-Data.size c.in-Data.is

pub returns-in-None : goal.returns-in-None
returns-in-None g c = counted_undone (g.N.Number.numerals c.args.self.now.0)
    (g.met.N.Number.lawful c.args.self.now.0 c.requires) c.args.at c.in-Numeral.inner
    c.in-Numeral.is (c.in-None.ensures)

pub returns-in-Some : goal.returns-in-Some
returns-in-Some g c = counted_done (g.N.Number.numerals c.args.self.now.0)
    (g.met.N.Number.lawful c.args.self.now.0 c.requires) c.args.at c.in-Numeral.inner
    c.in-Some.size c.in-Numeral.is (c.in-Some.ensures)
