use Rattle.std.proofs.Common.{◌≡◌, true, inl, rules}
use Rattle.parser_definitions.specs.Resume.{children, with_children}
use Rattle.parser_definitions.specs.Retry.{RetryDoes}
use Rattle.winnow_recovery.specs.Recovery.{recovery_of}
use Rattle.winnow_recovery.proofs.RecoveryLemmas.{in_ran}
use Rattle.winnow_recovery.proofs.combinator.impls.retry_after.RetryAfterParser.parse_next.Goals as goal

pub returns-then-is_recovery_supported-clause-ran :
    goal.returns-then-is_recovery_supported-clause-ran
returns-then-is_recovery_supported-clause-ran g c =
    let on : g.I.Recover.supports_recovery ≡ true = search rules depth 1 in
    let grows = g.E.FromRecoverableError.recoverable_grows in
    let ran =
    in_ran children with_children g.I.Stream.reading
    (λ at. RetryDoes grows g.P.Parser.does g.R.Parser.does at) g.E.HasKind.form (
      g.P.Parser.state c.args.self.now.parser,
      g.R.Parser.state c.args.self.now.recover,
      recovery_of g.I.Recover.supports_recovery grows,
    ) _ _ _ _ c.retry.ensures.ran in
    (ran.0, ran.1, ran.2, inl (on, ran.3))
