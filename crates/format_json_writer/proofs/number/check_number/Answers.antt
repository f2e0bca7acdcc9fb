use Rattle.std.proofs.Common.{inr, refl, rules, sym, ◌∙◌}
use Rattle.format_json_writer.proofs.Digits.{number_none, number_part, number_whole}
use Rattle.format_json_writer.proofs.number.check_number.Goals as goal

pub returns-then-is_read-clause-is : goal.returns-then-is_read-clause-is
returns-then-is_read-clause-is c =
    number_whole c.args.text.now _ c.in-Ok.ensures.grammar (c.is_read.ensures.yes (search rules))

pub returns-else-is_read-clause-none : goal.returns-else-is_read-clause-none
returns-else-is_read-clause-none c =
    inr (
      refl,
      number_part c.args.text.now _ c.in-Ok.ensures.grammar
          (c.is_read.ensures.no (search rules)),
    )

pub returns-in-Err-clause-none : goal.returns-in-Err-clause-none
returns-in-Err-clause-none c =
    let soft = c.in-Err.ensures.spared refl in
    inr (
      refl,
      number_none c.args.text.now _ c.in-Err.ensures.grammar (λ m. absurd (cc (sym soft ∙ m))),
    )
