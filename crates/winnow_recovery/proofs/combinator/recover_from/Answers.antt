use Rattle.std.proofs.Common.{rules, arith, inl, inr, ◌∙◌, ap}
use Rattle.streams.specs.Input.{back_at}
use Rattle.winnow_core.specs.Ends.{same_units}
use Rattle.winnow_recovery.proofs.combinator.recover_from.Goals as goal

pub returns-then-eof_offset-left-clause-ran : goal.returns-then-eof_offset-left-clause-ran
returns-then-eof_offset-left-clause-ran g c =
    let same = same_units g.I.Stream.reading _ _ c.in-Ok.ensures.ran.0 (omega arith) in (
      g.I.Stream.view c.parse_next.new.input,
      c.reset.ensures
          ∙ ap (λ r. back_at r (g.I.Stream.view c.parse_next.new.input))
          c.checkpoint-err_start.ensures,
      inr (inr (inl (
        search rules depth 1,
        c.in-Ok.ensures.ran,
        same,
        search rules depth 1,
      ))),
    )
