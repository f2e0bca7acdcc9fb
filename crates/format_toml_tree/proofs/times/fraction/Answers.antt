use Rattle.format_toml_tree.proofs.DateTimeParts.{count_least, frac_empty, frac_other, frac_some}
use Rattle.format_toml_tree.proofs.DateTimeParts.{frac_zero}
use Rattle.format_toml_tree.proofs.times.fraction.Goals as goal

pub returns-in_default : goal.returns-in_default
returns-in_default c = frac_empty c.args.text.now c.in_default.ensures.cases

pub returns-then-first-ne46 : goal.returns-then-first-ne46
returns-then-first-ne46 c = frac_other _ _ _ c.in-Some.ensures.cases.0 c.if-first-ne46.true

pub returns-then-count-eq0 : goal.returns-then-count-eq0
returns-then-count-eq0 c =
    frac_zero _ _ _ c.in-Some.ensures.cases.0 _ c.count_digits-count.ensures
    c.if-count-eq0.true

pub split_at-requires : goal.split_at-requires
split_at-requires c = count_least _ _ c.count_digits-count.ensures

pub returns : goal.returns
returns c = rw (c.split_at.ensures.front, c.split_at.ensures.back)
    (frac_some _ _ _ c.in-Some.ensures.cases.0 _ c.if-first-ne46.false
    c.count_digits-count.ensures c.if-count-eq0.false)
