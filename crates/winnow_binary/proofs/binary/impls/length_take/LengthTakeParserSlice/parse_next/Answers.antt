use Rattle.std.proofs.Common.{subst}
use Rattle.streams.specs.Input.{is_end_of_trans}
use Rattle.stream_errors.specs.Form.{answer_by}
use Rattle.parser_definitions.specs.Does.{Ran}
use Rattle.parser_definitions.specs.Left.{left_of}
use Rattle.parser_definitions.specs.Outcome.{setting_of, took}
use Rattle.parser_definitions.specs.Take.{TakeDoes}
use Rattle.winnow_core.specs.Settings.{outcome_at}
use Rattle.winnow_binary.proofs.LengthTakeLemmas.{take_from}
use Rattle.winnow_binary.proofs.binary.impls.length_take.LengthTakeParserSlice.parse_next.Goals as
    goal

pub returns-clause-ran : goal.returns-clause-ran
returns-clause-ran g c =
    let reading = g.I.Stream.reading in
    let counts = g.I.Stream.counts_missing in
    let form = g.E.HasKind.form in
    let at = setting_of form (g.I.Stream.view c.args.input.now) in
    let m = g.I.Stream.view c.parse_next.new.input in
    let n = c.in_ok-count.count in
    let t = g.P.Parser.state c.parse_next.new.self in
    let first = c.in_ok-count.ensures.ran in
    let answer = answer_by g.E.HasKind.kind c.parse_next-2.result in
    let k = c.parse_next-2.new.self.count in
    let j = g.I.Stream.view c.parse_next-2.new.input in
    let end = is_end_of_trans c.parse_next-2.ensures.ran.0 first.0 in
    let At : _ → Type 0 = λ n. Ran reading (TakeDoes reading counts (λ x. x)) form n m answer k j in
    let others = outcome_at reading (TakeDoes reading counts (λ x. x)) at _ m answer k j
    (record { more = first.1; possible = first.2 })
    (subst At c.take.ensures c.parse_next-2.ensures.ran) in (
      end,
      end.cut,
      end.ends.possible,
      (
        took n (t, left_of m),
        first.3,
        take_from reading counts t (g.N.ToUsize.number n) at (left_of m) answer k (left_of j)
            others,
      ),
    )
