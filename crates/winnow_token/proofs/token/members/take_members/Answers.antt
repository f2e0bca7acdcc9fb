use Rattle.std.proofs.Common.{◌∙◌, sym}
use Rattle.stream_sets.specs.Range.{bounds_of}
use Rattle.streams.specs.Stream.{AnswersSeen}
use Rattle.winnow_token.proofs.BoundsLemmas.{ascends}
use Rattle.winnow_token.proofs.MemberLemmas.{all_few_ran, ended_ran}
use Rattle.winnow_token.proofs.token.members.take_members.Goals as goal

pub returns-then-found : goal.returns-then-found
returns-then-found g c =
    let range = c.args.occurrences in
    let found = c.find_members-found.result in
    let within = ascends c.greatest.result _ range.start_inclusive c.unwrap_or.result
    c.greatest.ensures.value c.unwrap_or.ensures c.if-unwrap_or-least.false in record {
      ran = ended_ran g.I.Stream.reading g.E.HasKind.form
          (AnswersSeen g.I.Stream.seen_as (g.S.ContainsToken.tells c.args.set.now))
          (bounds_of range) (range, c.args.set.now) (g.I.Stream.view c.args.input.now)
          found.is_enough found.end within c.find_members-found.ensures c.in-Some.offset
          c.in-Some.is c.if-found.true c.next_slice.result _ c.next_slice.ensures.cuts;
    }

pub returns-else-found-2 : goal.returns-else-found-2
returns-else-found-2 g c =
    let range = c.args.occurrences in
    let found = c.find_members-found.result in
    let within = ascends c.greatest.result _ range.start_inclusive c.unwrap_or.result
    c.greatest.ensures.value c.unwrap_or.ensures c.if-unwrap_or-least.false in record {
      ran = all_few_ran g.I.Stream.reading g.E.HasKind.form
          (AnswersSeen g.I.Stream.seen_as (g.S.ContainsToken.tells c.args.set.now))
          (bounds_of range) (range, c.args.set.now) (g.I.Stream.view c.args.input.now)
          found.is_enough found.end within c.find_members-found.ensures c.in-None.is
          (sym c.is_partial.ensures ∙ c.if-is_partial.false) c.if-found-2.false _
          c.from_input-else-found-2.ensures;
    }
