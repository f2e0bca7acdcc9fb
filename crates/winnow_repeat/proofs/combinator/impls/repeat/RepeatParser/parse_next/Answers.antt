use Rattle.std.proofs.Common.{sym}
use Rattle.winnow_repeat.proofs.RepeatLemmas.{repeat_many_ran, repeat_one_ran, some_is_none}
use Rattle.winnow_repeat.proofs.combinator.impls.repeat.RepeatParser.parse_next.Goals as goal

pub returns-then-least-eq1-clause-ran : goal.returns-then-least-eq1-clause-ran
returns-then-least-eq1-clause-ran g c =
    repeat_one_ran g.I.Stream.reading g.C.Accumulate.accumulator g.P.Parser.does g.E.HasKind.form
    c.args.self.now.occurrences _ _ _ _ _ c.if-least-eq1.true (sym c.in-None.ensures.value)
    c.repeat_one.ensures.ran

pub returns-else-least-eq1-clause-ran : goal.returns-else-least-eq1-clause-ran
returns-else-least-eq1-clause-ran g c =
    repeat_many_ran g.I.Stream.reading g.C.Accumulate.accumulator g.P.Parser.does
    g.E.HasKind.form c.args.self.now.occurrences _ _ _ _ _ _ c.in-None.ensures.value
    (λ h. c.if-least-eq1.false h.0) c.repeat_many.ensures.ran

pub returns-in-Some-clause-ran : goal.returns-in-Some-clause-ran
returns-in-Some-clause-ran g c =
    repeat_many_ran g.I.Stream.reading g.C.Accumulate.accumulator g.P.Parser.does
    g.E.HasKind.form c.args.self.now.occurrences _ _ _ _ _ _ c.in-Some.ensures.value
    (λ h. some_is_none h.1) c.repeat_many-in-Some.ensures.ran
