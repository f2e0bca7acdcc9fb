use Rattle.winnow_core.proofs.ExactWholeLemmas.{call_keeps, call_reads, call_spared}
use Rattle.winnow_core.proofs.parser.Parser.read.Goals as goal

pub returns-clause-reads : goal.returns-clause-reads
returns-clause-reads g c =
    let claimed = g.met.Self.Parser.lawful.claimed (g.Self.Parser.state c.args.self.now) in
    call_reads g.I.Stream.reading g.E.HasKind.form
    (λ at. claimed.projects at c.requires.premise) g.E.HasKind.kind
    (g.Self.Parser.state c.parse_next.new.self) c.parse_next.result
    c.parse_next.ensures.ran c.requires.backtracks

pub returns-clause-kept : goal.returns-clause-kept
returns-clause-kept g c =
    let claimed = g.met.Self.Parser.lawful.claimed (g.Self.Parser.state c.args.self.now) in
    call_keeps g.I.Stream.reading g.E.HasKind.form
    (λ at. claimed.projects at c.requires.premise) g.E.HasKind.kind
    (g.Self.Parser.state c.parse_next.new.self) c.parse_next.result
    c.parse_next.ensures.ran

pub returns-clause-spared : goal.returns-clause-spared
returns-clause-spared g c =
    let claimed = g.met.Self.Parser.lawful.claimed (g.Self.Parser.state c.args.self.now) in
    call_spared g.I.Stream.reading g.E.HasKind.form
    (λ at. claimed.projects at c.requires.premise) g.E.HasKind.kind
    (g.Self.Parser.state c.parse_next.new.self) c.parse_next.result
    c.parse_next.ensures.ran c.requires.backtracks
