use Rattle.format_resp.specs.Numbers.{SignedText}
use Rattle.format_resp.proofs.numbers.number_of.Goals as goal

pub returns-clause-some : goal.returns-clause-some
unfolding SignedText
returns-clause-some c =
    rw (c.has_minus.ensures, c.without_sign.ensures) at c.signed_of.ensures.some

pub returns-clause-none : goal.returns-clause-none
unfolding SignedText
returns-clause-none c =
    rw (c.has_minus.ensures, c.without_sign.ensures) at c.signed_of.ensures.none
