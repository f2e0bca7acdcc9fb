use Rattle.std.proofs.Common.{arith, refl, sym, ◌∙◌}
use Rattle.parser_definitions.specs.Does.{Ran}
use Rattle.winnow_recovery.proofs.RecoverableParseLemmas.{all_read, failed, needs_none}
use Rattle.winnow_recovery.proofs.RecoverableParseLemmas.{needs_some, some_left}
use Rattle.winnow_recovery.proofs.parser.RecoverableParser.recoverable_parse.Goals as goal

pub returns-then-eof_offset-eq0-clause-ran : goal.returns-then-eof_offset-eq0-clause-ran
returns-then-eof_offset-eq0-clause-ran g c =
    all_read g.I.Stream.reading (Ran g.I.Stream.reading g.Self.Parser.does g.E.HasKind.form)
    g.I.Stream.view
    g.R.HasKind.kind _ _ _ _ _ _ c.new-input.ensures.view c.checkpoint-start.ensures
    c.in-Ok.ensures.ran.0 c.in-Ok.output c.parts_at_start-back.result.0
    c.parts_at_start-back.result.1 c.in-Ok.ensures.ran (omega arith) c.parts_at_start-back.ensures

pub returns-in-Ok-clause-ran : goal.returns-in-Ok-clause-ran
returns-in-Ok-clause-ran g c =
    some_left g.I.Stream.reading (Ran g.I.Stream.reading g.Self.Parser.does g.E.HasKind.form)
    g.I.Stream.view
    g.R.HasKind.kind _ _ _ _ _ _ c.new-input.ensures.view c.checkpoint-start.ensures
    c.in-Ok.ensures.ran.0 c.in-Ok.output (g.E.HasKind.kind c.from_input-error.result)
    c.ended_by.result c.in-Ok.ensures.ran (λ e. absurd (omega (arith, e)))
    c.from_input-error.ensures c.ended_by.ensures

pub returns-clause-ran : goal.returns-clause-ran
returns-clause-ran g c =
    failed g.I.Stream.reading (Ran g.I.Stream.reading g.Self.Parser.does g.E.HasKind.form)
    g.I.Stream.view
    g.R.HasKind.kind _ _ _ _ _ _ c.new-input.ensures.view c.checkpoint-start.ensures
    c.in-Err.ensures.ran.0 (g.E.HasKind.kind c.in-Err.error) (g.E.HasKind.kind c.in-Err.error)
    c.ended_by-in-Err.result c.in-Err.ensures.ran
    (sym (needs_none (g.E.HasKind.kind c.in-Err.error) c.if-is_incomplete.ensures.1))
    c.ended_by-in-Err.ensures

pub returns-then-is_incomplete-clause-ran : goal.returns-then-is_incomplete-clause-ran
returns-then-is_incomplete-clause-ran g c =
    failed g.I.Stream.reading (Ran g.I.Stream.reading g.Self.Parser.does g.E.HasKind.form)
    g.I.Stream.view g.R.HasKind.kind _ _ _ _ _ _ c.new-input.ensures.view
    c.checkpoint-start.ensures c.in-Err.ensures.ran.0 (g.E.HasKind.kind c.in-Err.error)
    (g.E.HasKind.kind c.from_input-error-then-is_incomplete.result)
    c.ended_by-then-is_incomplete.result c.in-Err.ensures.ran
    (c.from_input-error-then-is_incomplete.ensures
    ∙ needs_some (g.E.HasKind.kind c.in-Err.error) (c.if-is_incomplete.ensures.0 refl))
    c.ended_by-then-is_incomplete.ensures
