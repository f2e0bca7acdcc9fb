use Rattle.std.proofs.Common.{rules, inl}
use Rattle.winnow_repeat.proofs.combinator.impls.fold.RepeatFoldParser.parse_next.Goals as goal

pub returns-then-is_none-clause-ran : goal.returns-then-is_none-clause-ran
returns-then-is_none-clause-ran g c =
    let ran = c.fold_one.ensures.ran c.args.self.now.occurrences in
    (ran.0, ran.1, ran.2, inl ((search rules depth 1, search rules depth 1), ran.3))
