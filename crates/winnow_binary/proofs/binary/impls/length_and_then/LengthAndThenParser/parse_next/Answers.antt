use Rattle.std.proofs.Common.{subst}
use Rattle.streams.specs.Input.{is_end_of_trans}
use Rattle.stream_errors.specs.Form.{answer_by}
use Rattle.parser_definitions.specs.Does.{Ran}
use Rattle.parser_definitions.specs.Left.{left_of}
use Rattle.parser_definitions.specs.Length.{TakenDo}
use Rattle.parser_definitions.specs.Outcome.{outcome_of, setting_of, took}
use Rattle.parser_definitions.specs.Then.Steps.{with_second}
use Rattle.winnow_core.specs.Results.{handed}
use Rattle.winnow_core.specs.Settings.{outcome_at}
use Rattle.winnow_binary.proofs.binary.impls.length_and_then.LengthAndThenParser.parse_next.Goals as
    goal

pub returns-clause-ran : goal.returns-clause-ran
returns-clause-ran g c =
    let reading = g.I.Stream.reading in
    let form = g.E.HasKind.form in
    let at = setting_of form (g.I.Stream.view c.args.input.now) in
    let m = g.I.Stream.view c.parse_next.new.input in
    let n = c.in_ok-count.count in
    let t = g.P.Parser.state c.parse_next.new.self in
    let first = c.in_ok-count.ensures.ran in
    let answer = answer_by g.E.HasKind.kind c.parse_taken.result in
    let u = g.G.Parser.state c.parse_taken.new.parser in
    let j = g.I.Stream.view c.parse_taken.new.input in
    let each = TakenDo reading g.I.Stream.counts_missing g.G.Parser.does in
    let end = is_end_of_trans c.parse_taken.ensures.ran.0 first.0 in
    let At : _ → Type 0 =
    λ n. Ran reading (each n) form (g.G.Parser.state c.args.self.now.parser) m answer u j in
    let others = outcome_at reading (each (g.N.ToUsize.number n)) at _ m answer u j
    (record { more = first.1; possible = first.2 })
    (subst At c.to_usize.ensures c.parse_taken.ensures.ran) in (
      end,
      end.cut,
      end.ends.possible,
      (
        took n (t, left_of m),
        first.3,
        (
          outcome_of answer (u, left_of j),
          others,
          handed with_second at (t, g.G.Parser.state c.args.self.now.parser) (left_of m) answer u
              (left_of j),
        ),
      ),
    )
