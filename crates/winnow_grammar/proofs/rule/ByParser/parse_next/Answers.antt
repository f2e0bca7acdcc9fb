use Rattle.std.proofs.Common.{refl}
use Rattle.winnow_grammar.proofs.CallLemmas.{call_again, called_ran, reads_again}
use Rattle.winnow_grammar.proofs.rule.ByParser.parse_next.Goals as goal

pub returns-clause-again : goal.returns-clause-again
returns-clause-again g c =
    (search (call_again, c.requires.0), search (reads_again, c.requires.1))

pub returns-clause-ran : goal.returns-clause-ran
returns-clause-ran g c =
    called_ran c.requires.1 c.args.self.now.rule g.E.HasKind.form _ _ _ _
    (record { shown = _; shows = refl; left = _; called = c.run.ensures; leaves = refl })
