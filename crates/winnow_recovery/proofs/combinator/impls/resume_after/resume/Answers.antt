use Rattle.std.proofs.Common.{false, Some}
use Rattle.parser_definitions.specs.Resume.{resumes}
use Rattle.parser_definitions.specs.Then.Steps.{takes, with_first}
use Rattle.winnow_recovery.proofs.RecoveryLemmas.{resumed_ran, stopped_ran}
use Rattle.winnow_recovery.proofs.combinator.impls.resume_after.resume.Goals as goal

pub returns-in-Ok-recover_from-clause-ran : goal.returns-in-Ok-recover_from-clause-ran
returns-in-Ok-recover_from-clause-ran g c =
    resumed_ran g.I.Stream.reading g.E.FromRecoverableError.recoverable_grows g.P.Parser.does
    g.R.Parser.does g.E.HasKind.form
    (g.P.Parser.state c.args.parser.now, g.R.Parser.state c.args.recover.now)
    (g.P.Parser.state c.parse_next.new.self, g.R.Parser.state c.recover_from.new.recover) _ _ _
    (g.E.HasKind.kind c.in-Err.error) c.in-Err.ensures.ran c.if-not-can_recover.ensures
    c.recover_from.ensures.ends c.in-Ok-recover_from.ensures.ran

pub returns-clause-ran : goal.returns-clause-ran
returns-clause-ran g c =
    stopped_ran g.I.Stream.reading false g.E.FromRecoverableError.recoverable_grows
    (λ o. takes with_first (Some o)) resumes g.P.Parser.does g.R.Parser.does g.E.HasKind.form
    (g.P.Parser.state c.args.parser.now, g.R.Parser.state c.args.recover.now) _ _ _ _
    c.in-Err.ensures.ran _ _ _ c.if-not-can_recover.ensures
    c.recover_from.ensures.ends c.in-Err-recover_from.ensures.ran
