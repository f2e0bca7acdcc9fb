use Rattle.winnow_grammar.proofs.CutLemmas.{told_or_asked}
use Rattle.winnow_grammar.proofs.pieces.ReadsPieces.read_cut.Goals as goal

pub returns-clause-reads : goal.returns-clause-reads
returns-clause-reads g c =
    let claimed = g.met.Self.Parser.lawful.claimed (g.Self.Parser.state c.args.self.now) in
    told_or_asked g.I.Stream.reading g.E.HasKind.kind
    (g.met.Self.Parser.lawful.law c.requires.lawful)
    c.requires.stable (λ at. claimed.projects at c.requires.premise) c.requires.backtracks
    c.requires.modal _ c.read_outcome.result _ _ c.read_outcome.ensures.ran
