use denote.Param.Always.{mut_next}
use Rattle.std.proofs.Common.{refl}
use Rattle.winnow_grammar.specs.Rule.{read_again}
use Rattle.winnow_grammar.proofs.CallLemmas.{called_ran}
use Rattle.winnow_grammar.proofs.by_with.ByWithParser.parse_next.Goals as goal

pub returns-clause-again : goal.returns-clause-again
returns-clause-again g c = (
  mut_next _ _ _ _ _ _ c.run.ensures refl c.requires.0,
  read_again _ _ _ _ _ _ _ _ _ _ c.requires.1
      (record {
        shown = _;
        shows = refl;
        left = _;
        called = c.run.ensures;
        kept = refl;
        leaves = refl;
      }),
)

pub returns-clause-ran : goal.returns-clause-ran
returns-clause-ran g c =
    called_ran c.requires.1 c.args.self.now.rule g.E.HasKind.form _ _ _ _
    (record {
      shown = _;
      shows = refl;
      left = _;
      called = c.run.ensures;
      kept = refl;
      leaves = refl;
    })
