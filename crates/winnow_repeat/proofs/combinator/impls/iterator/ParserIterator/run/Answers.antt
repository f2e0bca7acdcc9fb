use Rattle.winnow_core.specs.Ends.{same_units}
use Rattle.std.proofs.Common.{rules, refl, inl, inr, arith}
use Rattle.winnow_repeat.proofs.combinator.impls.iterator.ParserIterator.run.Goals as goal

pub returns-then-eof_offset-left-clause-ran : goal.returns-then-eof_offset-left-clause-ran
returns-then-eof_offset-left-clause-ran g c =
    let same = same_units g.I.Stream.reading _ _ c.in-Ok.ensures.ran.0 (omega arith) in
    inr (inl (
      search rules depth 1,
      inr (inr (c.in-Ok.output, c.in-Ok.ensures.ran, same, search rules depth 1)),
      refl,
    ))

pub returns-clause-ran : goal.returns-clause-ran
returns-clause-ran g c = search rules depth 1
