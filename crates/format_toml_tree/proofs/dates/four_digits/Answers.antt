use Rattle.format_toml_tree.specs.Dates.{Finds}
use Rattle.format_toml_tree.proofs.DateParts.{four_joins, none_first, none_second, two_one}
use Rattle.format_toml_tree.proofs.dates.four_digits.Goals as goal

pub returns-in_err-hundreds : goal.returns-in_err-hundreds
returns-in_err-hundreds c =
    rw c.from_residual.ensures (none_first four_joins _ c.in_err-hundreds.ensures)

pub returns-in_err-ones : goal.returns-in_err-ones
unfolding Finds
returns-in_err-ones c = rw c.from_residual-in_err-ones.ensures
    (none_second four_joins two_one c.in_ok-hundreds.ensures c.in_err-ones.ensures)

pub returns : goal.returns
unfolding Finds
returns c = rw (c.from.ensures, c.from-2.ensures)
    (four_joins.back _ _ _ _ _ c.in_ok-hundreds.ensures c.in_ok-ones.ensures tt)
