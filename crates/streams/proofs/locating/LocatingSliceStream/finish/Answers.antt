use Rattle.std.proofs.Common.{◌+◌, arith}
use Rattle.streams.specs.Input.{takes_end}
use Rattle.streams.specs.Located.{located_takes}
use Rattle.streams.proofs.locating.LocatingSliceStream.finish.Goals as goal

pub returns-clause-takes : goal.returns-clause-takes
returns-clause-takes g c =
    let i = g.I.Stream.view c.args.self.now.input in
    located_takes g.I.Stream.reading i.left.tokens i c.finish-slice.result
    (g.I.Stream.view c.finish-slice.new.self) c.args.self.now.passed
    (c.args.self.now.passed + c.eof_offset-units.result) c.finish-slice.ensures.takes
    (omega (arith, c.eof_offset-units.ensures))

pub returns-clause-ends : goal.returns-clause-ends
returns-clause-ends g c = takes_end (returns-clause-takes g c)
