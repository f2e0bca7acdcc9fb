use Rattle.std.proofs.Common.{inl}
use Rattle.grammars.specs.Grammar.Searches.Unique.{match_before}
use Rattle.winnow_ascii.proofs.ascii.line_ends.till_return_or_feed.Goals as goal

pub returns-in-Some-clause-ran : goal.returns-in-Some-clause-ran
returns-in-Some-clause-ran g c =
    let first = c.in-Some.ensures in
    let takes = c.next_slice.ensures.cuts first.front _ first.stands.splits first.starts in
    (first.front, inl (match_before g.I.Stream.reading first _ takes.passed.tokens), takes)
