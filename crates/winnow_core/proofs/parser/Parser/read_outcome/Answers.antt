use Rattle.winnow_core.proofs.TellsLemmas.{tells_of}
use Rattle.winnow_core.proofs.parser.Parser.read_outcome.Goals as goal

pub returns-clause-tells : goal.returns-clause-tells
returns-clause-tells g c =
    tells_of g.I.Stream.reading
    (g.met.Self.Parser.lawful.law c.requires.premise) g.E.HasKind.form _ _ _ _ _
    c.parse_next.ensures.ran
