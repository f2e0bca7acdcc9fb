use Rattle.std.proofs.Common.{◌∙◌, Some, refl, subst}
use Rattle.streams.specs.Input.{is_end_of_trans}
use Rattle.stream_errors.specs.Form.{answer_by}
use Rattle.stream_sets.specs.Range.{from_to}
use Rattle.parser_definitions.specs.Does.{Ran}
use Rattle.parser_definitions.specs.Folding.{gathering}
use Rattle.parser_definitions.specs.Left.{left_of}
use Rattle.parser_definitions.specs.LengthRepeat.{times}
use Rattle.parser_definitions.specs.Outcome.{took}
use Rattle.parser_definitions.specs.Repeat.{Many}
use Rattle.parser_definitions.specs.Then.Steps.{instead, same, second, with_second}
use Rattle.winnow_repeat.specs.Called.{there}
use Rattle.winnow_repeat.specs.Called.Parts.{IsPart, gathers_part, many_ran}
use Rattle.winnow_binary.proofs.binary.impls.length_repeat.LengthRepeatParser.parse_next.Goals as
    goal

pub returns-clause-ran : goal.returns-clause-ran
returns-clause-ran g c =
    let reading = g.I.Stream.reading in
    let form = g.E.HasKind.form in
    let kept = g.C.Accumulate.accumulator in
    let m = g.I.Stream.view c.parse_next.new.input in
    let n = c.in_ok-parse_next.field-0 in
    let t = g.P.Parser.state c.parse_next.new.self in
    let first = c.in_ok-parse_next.ensures.ran in
    let At : _ → Type 0 =
    λ n. Ran reading (Many same instead (gathering kept) g.G.Parser.does (from_to n (Some n))) form
    (g.G.Parser.state c.args.self.now.parser) m (answer_by g.E.HasKind.kind c.repeat_many.result)
    (g.G.Parser.state c.repeat_many.new.parser)
    (g.I.Stream.view c.repeat_many.new.input) in
    let part : IsPart same instead (gathering kept) second with_second (gathering kept)
    (λ s. (t, s)) =
    gathers_part kept (λ p. refl) (λ p s. refl) in
    let bounds = times (g.N.ToUsize.number n) in
    let others = many_ran part reading g.G.Parser.does form _ m _ _ _ bounds
    (subst At c.to_usize-count.ensures c.repeat_many.ensures.ran) in (
      is_end_of_trans others.0 first.0,
      others.1 ∙ first.1,
      others.2 ∙ first.2,
      (
        took n (t, left_of m),
        first.3,
        there reading (Many second with_second (gathering kept) g.G.Parser.does bounds) form
            (g.I.Stream.view c.args.input.now) m _ _ _ _ first.0 others,
      ),
    )
