use Rattle.winnow_core.proofs.TellsLemmas.{all_outcome}
use Rattle.winnow_core.proofs.parser.Parser.parse_outcome.Goals as goal

pub returns-clause-tells : goal.returns-clause-tells
returns-clause-tells g c =
    all_outcome g.I.Stream.reading (g.met.Self.Parser.lawful.law c.requires.premise) g.I.Stream.view
    g.E.ParserError.inner_kind g.E.HasKind.form _ _ _ c.parse.result
    (g.met.I.StreamIsPartial.whole c.requires.whole c.args.input) c.parse.ensures.ran
