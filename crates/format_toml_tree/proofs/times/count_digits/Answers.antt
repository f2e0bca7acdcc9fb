use Rattle.std.proofs.lemmas.List.Elements.{All-more}
use Rattle.format_toml_tree.specs.Dates.{IsDigit}
use Rattle.format_toml_tree.proofs.DateTimeParts.{count_all, count_here}
use Rattle.format_toml_tree.proofs.times.count_digits.Goals as goal

pub returns-then-not-is_ascii_digit : goal.returns-then-not-is_ascii_digit
returns-then-not-is_ascii_digit c =
    count_here _ _ c.loop-place-test.true c.if-not-is_ascii_digit.ensures.cases
    c.loop-place.invariant

pub loop-place-preserved : goal.loop-place-preserved
loop-place-preserved c =
    All-more IsDigit _ _ 0 c.loop-place-test.true c.loop-place.invariant
    c.if-not-is_ascii_digit.ensures.cases

pub returns : goal.returns
returns c = count_all _ _ c.loop-place-test.false c.loop-place.invariant
