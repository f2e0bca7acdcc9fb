use Rattle.format_resp.specs.Numbers.{IsBigNumber}
use Rattle.format_resp.proofs.numbers.is_big_number.Goals as goal

pub returns : goal.returns
unfolding IsBigNumber
returns c = rw c.without_sign.ensures at c.are_digits.ensures
