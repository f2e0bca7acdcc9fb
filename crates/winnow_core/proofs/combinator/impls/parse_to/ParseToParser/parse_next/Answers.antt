use Rattle.std.proofs.Common.{rules, Ok, Err, refl, inl, inr}
use Rattle.stream_errors.specs.Form.{answer_by}
use Rattle.parser_definitions.specs.Verify.{gives_or_not, reads_as}
use Rattle.parser_definitions.specs.Settles.{SettlesDo}
use Rattle.streams.specs.Kind.{backtrack}
use Rattle.winnow_core.specs.Called.{alone_ran, reset_ran, settled_ran, unsettled_ran}
use Rattle.winnow_core.proofs.combinator.impls.parse_to.ParseToParser.parse_next.Goals as goal

pub returns-in_err-output-clause-ran : goal.returns-in_err-output-clause-ran
returns-in_err-output-clause-ran g c =
    let settle = gives_or_not (reads_as g.O.ParseSlice.reads) in
    let answer = answer_by g.E.HasKind.kind c.from_residual.result in
    alone_ran g.I.Stream.reading (SettlesDo settle g.F.Parser.does) g.E.HasKind.form _ _ answer _ _
    (unsettled_ran g.I.Stream.reading settle g.F.Parser.does g.E.HasKind.form _ _ _ _
    (g.E.HasKind.kind c.in_err-output.field-0.0) answer c.in_err-output.ensures.ran refl
    (search rules depth 1))

pub returns-in-Some-clause-ran : goal.returns-in-Some-clause-ran
returns-in-Some-clause-ran g c =
    let settle = gives_or_not (reads_as g.O.ParseSlice.reads) in
    alone_ran g.I.Stream.reading (SettlesDo settle g.F.Parser.does) g.E.HasKind.form _ _
    (Ok c.in-Some.output) _ _
    (settled_ran g.I.Stream.reading settle g.F.Parser.does g.E.HasKind.form _ _ _ _ _
    c.in_ok-output.ensures.ran _ (inl (c.in-Some.output, _, (search rules depth 1, refl), refl)))

pub returns-clause-ran : goal.returns-clause-ran
returns-clause-ran g c =
    let settle = gives_or_not (reads_as g.O.ParseSlice.reads) in
    alone_ran g.I.Stream.reading (SettlesDo settle g.F.Parser.does) g.E.HasKind.form _ _
    (Err (g.E.HasKind.kind c.from_input.result)) _ _
    (reset_ran g.I.Stream.reading settle g.F.Parser.does g.E.HasKind.form _ _ _ _ _
    c.in_ok-output.ensures.ran backtrack
    (Err (g.E.HasKind.kind c.from_input.result)) _ (inr (_, (search rules depth 1, refl), refl))
    (search rules depth 1) (search rules depth 1))
