use Rattle.std.proofs.Common.{rules}
use Rattle.winnow_repeat.proofs.RepeatTillLemmas.{least_failed, turns_follow}
use Rattle.winnow_repeat.proofs.combinator.impls.repeat_till.RepeatTillParserTuple2.parse_next.Goals as goal

pub returns-in_ok-all-in-Ok-clause-ran : goal.returns-in_ok-all-in-Ok-clause-ran
returns-in_ok-all-in-Ok-clause-ran g c =
    turns_follow g.I.Stream.reading g.C.Accumulate.accumulator g.P.Parser.does g.G.Parser.does
    g.E.HasKind.form c.args.self.now.occurrences _ _ _ _ _ _ c.greatest-greatest.ensures.value
    (search rules depth 1) (search rules depth 1) c.in-Ok.ensures _ _ _
    c.in_ok-all-in-Ok.ensures.ran _ (search rules depth 1) _ _ _
    (c.turns.ensures.ran c.args.self.now.occurrences)

pub returns-in_err-all-in-Ok-clause-ran : goal.returns-in_err-all-in-Ok-clause-ran
returns-in_err-all-in-Ok-clause-ran g c =
    least_failed g.I.Stream.reading g.C.Accumulate.accumulator g.P.Parser.does g.G.Parser.does
    g.E.HasKind.form c.args.self.now.occurrences _ _ _ _ _ _ c.greatest-greatest.ensures.value
    (search rules depth 1) (search rules depth 1) c.in-Ok.ensures _ _
    (g.E.HasKind.kind c.in_err-all-in-Ok.field-0.0) c.in_err-all-in-Ok.ensures.ran _
    (search rules depth 1)
