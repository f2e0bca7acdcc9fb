use Rattle.std.proofs.Common.{arith, ap, length, length-append, ◌∷◌, ◌+◌}
use Rattle.format_ini.proofs.Placing.{at_front, indent_within, pair_key, pair_value}
use Rattle.format_ini.proofs.lines.read_pair.Goals as goal

pub overflow_add-at : goal.overflow_add-at
overflow_add-at c =
    let before = c.in-Some.before.now in
    let (mark, e, is, none) = c.in-Some.ensures in
    omega (
      arith,
      c.requires,
      c.trim-lead.ensures.indent,
      indent_within before,
      ap (λ l. length l) e,
      length-append before (mark ∷ c.in-Some.field-0-1.now),
    )

pub overflow_add-at-in-Some-2-3 : goal.overflow_add-at-in-Some-2-3
overflow_add-at-in-Some-2-3 c =
    let before = c.in-Some.before.now in
    let behind = c.in-Some.field-0-1.now in
    let (mark, e, is, none) = c.in-Some.ensures in
    omega (
      arith,
      c.requires,
      c.trim-blanks.ensures.indent,
      c.gap_before-gap.ensures.few,
      indent_within behind,
      ap (λ l. length l) e,
      length-append before (mark ∷ behind),
    )

pub returns-in-None-clause-key : goal.returns-in-None-clause-key
returns-in-None-clause-key c = at_front _ _ _ c.both_at.ensures.0

pub returns-in-Some-2-clause-key : goal.returns-in-Some-2-clause-key
returns-in-Some-2-clause-key c =
    let (mark, e, is, none) = c.in-Some.ensures in
    pair_key _ _ _ _ _ _ _ e c.trim-lead.ensures.text (ap (λ n. c.args.place + n)
    c.trim-lead.ensures.indent)

pub returns-in-Some-2-clause-value : goal.returns-in-Some-2-clause-value
returns-in-Some-2-clause-value c =
    let (mark, e, is, none) = c.in-Some.ensures in
    pair_value c.args.dialect _ _ _ _ _ _ _ _ _ e none is c.trim-blanks.ensures.text
    c.trim-blanks.ensures.indent c.gap_before-gap.ensures.gap (omega arith)
