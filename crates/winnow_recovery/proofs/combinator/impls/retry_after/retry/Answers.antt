use Rattle.std.proofs.Common.{true, refl, Ok, Err}
use Rattle.parser_definitions.specs.Does.{Ran}
use Rattle.parser_definitions.specs.Retry.{never, once}
use Rattle.parser_definitions.specs.Then.Steps.{takes, with_first}
use Rattle.winnow_recovery.proofs.RecoveryLemmas.{lost_ran, stopped_ran}
use Rattle.winnow_recovery.proofs.RetryLemmas.{again_ran, leads_here, leads_on, try_falls}
use Rattle.winnow_recovery.proofs.combinator.impls.retry_after.retry.Goals as goal

pub tries-init : goal.tries-init
tries-init g c = (leads_here _ _ _, c.requires.parser, c.requires.recover)

pub returns-in-Ok-clause-ran : goal.returns-in-Ok-clause-ran
returns-in-Ok-clause-ran g c =
    let ran = c.in-Ok.ensures.ran in
    let end : g.P.Parser.State × g.R.Parser.State =
    (g.P.Parser.state c.parse_next.new.self, g.R.Parser.state c.tries.recover) in
    c.tries.invariant.0.leads (Ok c.in-Ok.output) end (g.I.Stream.view c.parse_next.new.input)
    (ran.0, ran.1, ran.2, once (_, ran.3, refl))

pub returns-then-not-can_recover-clause-ran : goal.returns-then-not-can_recover-clause-ran
returns-then-not-can_recover-clause-ran g c =
    let x = g.I.Stream.view c.parse_next.new.input in
    let k = g.E.HasKind.kind c.in-Err.error in
    let start : g.P.Parser.State × g.R.Parser.State =
    (g.P.Parser.state c.tries.parser, g.R.Parser.state c.tries.recover) in
    let ran =
    lost_ran g.I.Stream.reading true g.E.FromRecoverableError.recoverable_grows
    (λ o. takes with_first o) (λ k. never) g.P.Parser.does g.R.Parser.does g.E.HasKind.form start
    (g.I.Stream.view c.tries.input) x k (g.P.Parser.state c.parse_next.new.self)
    c.in-Err.ensures.ran c.if-not-can_recover.ensures in
    c.tries.invariant.0.leads (Err k) (g.P.Parser.state c.parse_next.new.self, start.1) x
    (ran.0, ran.1, ran.2, once ran.3)

pub returns-in-Err-recover_from-clause-ran : goal.returns-in-Err-recover_from-clause-ran
returns-in-Err-recover_from-clause-ran g c =
    let u = g.P.Parser.state c.parse_next.new.self in
    let v = g.R.Parser.state c.recover_from.new.recover in
    let j = g.I.Stream.view c.recover_from.new.input in
    let l = g.E.HasKind.kind c.in-Err-recover_from.refused in
    let ran =
    stopped_ran g.I.Stream.reading true g.E.FromRecoverableError.recoverable_grows
    (λ o. takes with_first o) (λ k. never) g.P.Parser.does g.R.Parser.does g.E.HasKind.form
    (g.P.Parser.state c.tries.parser, g.R.Parser.state c.tries.recover)
    (g.I.Stream.view c.tries.input) (g.I.Stream.view c.parse_next.new.input)
    (g.E.HasKind.kind c.in-Err.error) u c.in-Err.ensures.ran l v j c.if-not-can_recover.ensures
    c.recover_from.ensures.ends c.in-Err-recover_from.ensures.ran in
    c.tries.invariant.0.leads (Err l) (u, v) j (ran.0, ran.1, ran.2, once ran.3)

pub tries-smaller : goal.tries-smaller
tries-smaller g c =
    try_falls g.I.Stream.reading (Ran g.I.Stream.reading g.R.Parser.does g.E.HasKind.form)
    (g.E.HasKind.kind c.in-Err.error) (g.R.Parser.state c.tries.recover)
    (g.I.Stream.view c.tries.input) (g.I.Stream.view c.parse_next.new.input)
    (g.R.Parser.state c.recover_from.new.recover) (g.I.Stream.view c.recover_from.new.input)
    c.in-Err.ensures.ran.0 c.recover_from.ensures.ends c.in-Ok-recover_from.ensures.ran

pub tries-preserved : goal.tries-preserved
tries-preserved g c =
    let inv = c.tries.invariant in (
      leads_on inv.0 (again_ran g.I.Stream.reading g.E.FromRecoverableError.recoverable_grows
          g.P.Parser.does g.R.Parser.does g.E.HasKind.form
          (g.P.Parser.state c.tries.parser, g.R.Parser.state c.tries.recover)
          (g.P.Parser.state c.parse_next.new.self, g.R.Parser.state c.recover_from.new.recover)
          (g.I.Stream.view c.tries.input) (g.I.Stream.view c.parse_next.new.input)
          (g.I.Stream.view c.recover_from.new.input) (g.E.HasKind.kind c.in-Err.error)
          c.if-not-can_recover.ensures c.in-Err.ensures.ran c.recover_from.ensures.ends
          c.in-Ok-recover_from.ensures.ran),
      c.in-Err.ensures.again,
      c.in-Ok-recover_from.ensures.again,
    )
