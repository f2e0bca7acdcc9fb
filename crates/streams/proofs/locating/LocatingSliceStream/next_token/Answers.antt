use Rattle.std.proofs.Common.{◌+◌, ◌-◌, ◌∷◌, [], arith}
use Rattle.streams.specs.Input.{passes_end}
use Rattle.streams.specs.Located.{located_passes, located_same, passed_units}
use Rattle.streams.proofs.locating.LocatingSliceStream.next_token.Goals as goal

pub returns-in_err-token-clause-ends : goal.returns-in_err-token-clause-ends
returns-in_err-token-clause-ends g c =
    located_same g.I.Stream.reading (g.I.Stream.view c.args.self.now.input)
    (g.I.Stream.view c.next_token.new.self) c.args.self.now.passed
    c.in_err-token.ensures.passes.1

pub returns-clause-passes : goal.returns-clause-passes
returns-clause-passes g c =
    let i = g.I.Stream.view c.args.self.now.input in
    let j = g.I.Stream.view c.next_token.new.self in
    let passes = c.in_ok-token.ensures.passes in
    let units = passed_units g.I.Stream.reading (g.I.Stream.seen_as c.in_ok-token.token ∷ []) i
    j passes in
    located_passes g.I.Stream.reading (g.I.Stream.seen_as c.in_ok-token.token ∷ []) i j
    c.args.self.now.passed
    (c.args.self.now.passed + (c.eof_offset-before.result - c.eof_offset.result)) passes
    (omega (arith, units, c.eof_offset-before.ensures, c.eof_offset.ensures))

pub returns-clause-ends : goal.returns-clause-ends
returns-clause-ends g c = passes_end (returns-clause-passes g c)
