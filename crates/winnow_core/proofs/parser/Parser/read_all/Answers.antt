use Rattle.winnow_core.proofs.ExactWholeLemmas.{all_spared, all_told}
use Rattle.winnow_core.proofs.parser.Parser.read_all.Goals as goal

pub returns-clause-reads : goal.returns-clause-reads
returns-clause-reads g c =
    let claimed = g.met.Self.Parser.lawful.claimed (g.Self.Parser.state c.args.self.now) in
    all_told g.I.Stream.view g.I.Stream.reading g.E.ParserError.inner_kind g.E.HasKind.form
    (λ at. claimed.projects at c.requires.premise) _ _ c.parse.result
    (g.met.I.StreamIsPartial.whole c.requires.whole c.args.input) c.parse.ensures.ran

pub returns-clause-spared : goal.returns-clause-spared
returns-clause-spared g c spares =
    let claimed = g.met.Self.Parser.lawful.claimed (g.Self.Parser.state c.args.self.now) in
    all_spared g.I.Stream.view g.I.Stream.reading g.E.ParserError.inner_kind g.E.HasKind.form
    (λ at. claimed.projects at c.requires.premise) _ _ spares c.parse.result
    (g.met.I.StreamIsPartial.whole c.requires.whole c.args.input) c.parse.ensures.ran
