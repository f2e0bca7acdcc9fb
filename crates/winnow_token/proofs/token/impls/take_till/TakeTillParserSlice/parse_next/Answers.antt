use Rattle.stream_sets.specs.Once.{Others}
use Rattle.stream_sets.specs.Range.{bounds_of}
use Rattle.streams.specs.Stream.{AnswersSeen}
use Rattle.winnow_token.specs.Elsewhere.{take_while_from}
use Rattle.winnow_token.proofs.token.impls.take_till.TakeTillParserSlice.parse_next.Goals as goal

pub returns-clause-ran : goal.returns-clause-ran
returns-clause-ran g c =
    let set = c.args.self.now.set in
    let range = c.args.self.now.occurrences in
    take_while_from g.I.Stream.reading _ (range, set)
    (AnswersSeen g.I.Stream.seen_as (Others g.S.ContainsToken.tells set)) (bounds_of range)
    g.E.HasKind.form _ _ _ _ c.take_members.ensures.ran
