use Rattle.std.proofs.Common.{rules, arith, inl, inr, refl}
use Rattle.streams.specs.Kind.{memory}
use Rattle.winnow_expression.specs.Units.{ends_fewer}
use Rattle.winnow_expression.proofs.combinator.machine.operand_step.Goals as goal

pub returns-in-Ok-clause-ran : goal.returns-in-Ok-clause-ran
returns-in-Ok-clause-ran g c =
    inr (inr (
      _,
      c.in-Prefix.power,
      (
        c.in-Prefix.fold,
        search rules depth 1,
        ends_fewer g.I.Stream.reading _ _ c.in_ok-value.ensures.ran.0 (omega arith),
        refl,
      ),
      search rules depth 1,
      search rules depth 1,
    ))

pub returns-in-Err-clause-ran : goal.returns-in-Err-clause-ran
returns-in-Err-clause-ran g c =
    inl (
      memory,
      inr (inr (
        _,
        c.in-Prefix.power,
        (
          c.in-Prefix.fold,
          search rules depth 1,
          ends_fewer g.I.Stream.reading _ _ c.in_ok-value.ensures.ran.0 (omega arith),
          refl,
        ),
        refl,
      )),
      search rules depth 1,
    )
