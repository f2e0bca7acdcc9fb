use Rattle.parser_definitions.specs.Does.{Ran}
use Rattle.parser_definitions.specs.Retry.{RetryDoes}
use Rattle.winnow_recovery.proofs.RetryLemmas.{Leads}
use Rattle.winnow_recovery.proofs.combinator.impls.retry_after.retry.Given as goal

abbrev pub invariant-tries : goal.invariant-tries
invariant-tries g l =
    Leads (Ran g.I.Stream.reading (λ at. RetryDoes g.E.FromRecoverableError.recoverable_grows
    g.P.Parser.does g.R.Parser.does at) g.E.HasKind.form)
    (g.P.Parser.state l.fn.parser, g.R.Parser.state l.fn.recover) (g.I.Stream.view l.fn.input)
    (g.P.Parser.state l.parser, g.R.Parser.state l.recover) (g.I.Stream.view l.input)
    × g.P.Parser.can_parse l.parser × g.R.Parser.can_parse l.recover

abbrev pub decreases-tries : goal.decreases-tries
decreases-tries g l = g.I.Stream.reading.units (g.I.Stream.view l.input).left.tokens
