use Rattle.winnow_grammar.proofs.CallLemmas.{call_again}
use Rattle.winnow_grammar.proofs.RulePiecesLemmas.{pieces_ran, tells_again}
use Rattle.winnow_grammar.proofs.by_pieces.ByPiecesParser.parse_next.Goals as goal

pub returns-clause-again : goal.returns-clause-again
returns-clause-again g c =
    (search (call_again, c.requires.0), tells_again c.run.ensures c.requires.1)

pub returns-clause-ran : goal.returns-clause-ran
returns-clause-ran g c = pieces_ran c.run.ensures c.requires.1
