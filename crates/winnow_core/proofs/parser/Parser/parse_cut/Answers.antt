use Rattle.parser_definitions.specs.Does.{gets_of}
use Rattle.winnow_core.proofs.parser.Parser.parse_cut.Goals as goal
use Rattle.winnow_core.specs.Longer.{same_on_longer}

pub returns-clause-gets : goal.returns-clause-gets
returns-clause-gets g c =
    gets_of g.I.Stream.reading (g.met.Self.Parser.lawful.law c.requires.premise) c.requires.stable
    c.requires.modal _ _ _ _ _ c.requires.is_cut c.requires.readable
    c.read_outcome.ensures.tells.ran

pub returns-clause-same : goal.returns-clause-same
returns-clause-same g c =
    same_on_longer g.I.Stream.reading (g.met.Self.Parser.lawful.law c.requires.premise)
    c.requires.stable c.requires.modal _ _ _ _ _
    c.requires.is_cut c.requires.readable c.read_outcome.ensures.ran
