use Rattle.std.proofs.Common.{inl, inr, refl, arith}
use Rattle.format_toml.specs.Integers.{by_letter, by_no_letter}
use Rattle.format_toml.proofs.IntegersLemmas.{nothing_after}
use Rattle.format_toml.proofs.integers.after_zero.Goals as goal

pub returns-in_err-letter : goal.returns-in_err-letter
returns-in_err-letter c =
    rw c.from_residual.ensures (nothing_after c.args.text.now c.in_err-letter.ensures.cases)

pub returns-then-letter-eq120 : goal.returns-then-letter-eq120
returns-then-letter-eq120 c =
    by_letter _ (inl (c.if-letter-eq120.true, refl)) c.in_ok-letter.ensures.cases.0
    c.number_in.ensures

pub returns-then-letter-eq111 : goal.returns-then-letter-eq111
returns-then-letter-eq111 c =
    by_letter _ (inr (inl (c.if-letter-eq111.true, refl))) c.in_ok-letter.ensures.cases.0
    c.number_in-then-letter-eq111.ensures

pub returns-then-letter-eq98 : goal.returns-then-letter-eq98
returns-then-letter-eq98 c =
    by_letter _ (inr (inr (c.if-letter-eq98.true, refl))) c.in_ok-letter.ensures.cases.0
    c.number_in-then-letter-eq98.ensures

pub returns : goal.returns
returns c = by_no_letter c.in_ok-letter.ensures.cases.0 (λ base is. omega arith)
