use Rattle.std.proofs.Common.{◌≡◌, true, false, Ok, Err, inl, rules}
use Rattle.parser_definitions.specs.Resume.{ResumeDoes, children, with_children}
use Rattle.winnow_recovery.specs.Recovery.{recovery_of}
use Rattle.winnow_recovery.proofs.RecoveryLemmas.{in_ran, some_ran}
use Rattle.winnow_recovery.proofs.combinator.impls.resume_after.ResumeAfterParserOption.parse_next.Goals as goal

pub returns-then-is_recovery_supported-clause-ran :
    goal.returns-then-is_recovery_supported-clause-ran
returns-then-is_recovery_supported-clause-ran g c =
    let on : g.I.Recover.supports_recovery ≡ true = search rules depth 1 in
    let grows = g.E.FromRecoverableError.recoverable_grows in
    let ran =
    in_ran children with_children g.I.Stream.reading
    (ResumeDoes grows g.P.Parser.does g.R.Parser.does) g.E.HasKind.form (
      g.P.Parser.state c.args.self.now.parser,
      g.R.Parser.state c.args.self.now.recover,
      recovery_of g.I.Recover.supports_recovery grows,
    ) _ _ _ _ c.resume.ensures.ran in
    (ran.0, ran.1, ran.2, inl (on, ran.3))

pub returns-in-Ok-clause-ran : goal.returns-in-Ok-clause-ran
returns-in-Ok-clause-ran g c =
    let off : g.I.Recover.supports_recovery ≡ false = search rules depth 1 in
    some_ran g.I.Stream.reading g.P.Parser.does g.R.Parser.does g.E.HasKind.form (
      g.P.Parser.state c.args.self.now.parser,
      g.R.Parser.state c.args.self.now.recover,
      recovery_of g.I.Recover.supports_recovery g.E.FromRecoverableError.recoverable_grows,
    ) _ (Ok c.in-Ok.output) _ _ off c.in-Ok.ensures.ran

pub returns-in-Err-clause-ran : goal.returns-in-Err-clause-ran
returns-in-Err-clause-ran g c =
    let off : g.I.Recover.supports_recovery ≡ false = search rules depth 1 in
    some_ran g.I.Stream.reading g.P.Parser.does g.R.Parser.does g.E.HasKind.form (
      g.P.Parser.state c.args.self.now.parser,
      g.R.Parser.state c.args.self.now.recover,
      recovery_of g.I.Recover.supports_recovery g.E.FromRecoverableError.recoverable_grows,
    ) _ (Err (g.E.HasKind.kind c.in-Err.error)) _ _ off c.in-Err.ensures.ran
