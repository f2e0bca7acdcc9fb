use Rattle.std.proofs.Common.{arith}
use Rattle.format_toml_tree.specs.Dates.{FoundResult}
use Rattle.format_toml_tree.proofs.dates.digit.Goals as goal

pub returns-then-is_ascii_digit : goal.returns-then-is_ascii_digit
unfolding FoundResult
returns-then-is_ascii_digit c =
    let (least, most) = c.if-is_ascii_digit.ensures.cases in (omega arith, omega arith)

pub returns : goal.returns
unfolding FoundResult
returns c = λ n (less, is). omega (arith, c.if-is_ascii_digit.ensures.cases)
