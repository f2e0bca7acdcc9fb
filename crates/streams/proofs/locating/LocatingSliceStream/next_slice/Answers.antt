use Rattle.std.proofs.Common.{◌+◌, arith}
use Rattle.streams.specs.Input.{takes_end}
use Rattle.streams.specs.Located.{located_takes}
use Rattle.streams.proofs.locating.LocatingSliceStream.next_slice.Goals as goal

pub returns-clause-cuts : goal.returns-clause-cuts
returns-clause-cuts g c front rest splits at =
    located_takes g.I.Stream.reading front (g.I.Stream.view c.args.self.now.input)
    c.next_slice-slice.result (g.I.Stream.view c.next_slice-slice.new.self)
    c.args.self.now.passed (c.args.self.now.passed + c.args.offset)
    (c.next_slice-slice.ensures.cuts front rest splits at)
    (omega (arith, at))

pub returns-clause-ends : goal.returns-clause-ends
returns-clause-ends g c =
    let boundary = c.requires in
    takes_end (returns-clause-cuts g c boundary.0 boundary.1 boundary.2 boundary.3)
