use lib.IntN.{+ℤ_idl}
use Rattle.format_toml.specs.Integers.{by_sign, minus}
use Rattle.format_toml.specs.Integers.{plain, plus, zeroed}
use Rattle.format_toml.proofs.integers.integer.Goals as goal
use Rattle.format_toml.proofs.integers.integer.Goals.{
  else-first-eq48-via-then-first-eq48+else-text-gt1,
}
use Rattle.format_toml.proofs.integers.integer.Goals.{else-first-eq48-via-else-first-eq48}
use Rattle.format_toml.proofs.IntegersLemmas.{fits_neg, fits_pos, no_number, nothing_there}

pub returns-in_err-first : goal.returns-in_err-first
returns-in_err-first c =
    rw c.from_residual.ensures (nothing_there c.args.text.now c.in_err-first.ensures.cases)

pub returns-in_err-unsigned : goal.returns-in_err-unsigned
returns-in_err-unsigned c = rw c.from_residual-in_err-unsigned.ensures (no_number fits_pos
    (plus c.in_ok-first.ensures.cases.0 c.if-first-eq43.true) c.in_err-unsigned.ensures)

pub returns-then-first-eq43 : goal.returns-then-first-eq43
returns-then-first-eq43 c =
    by_sign fits_pos (plus c.in_ok-first.ensures.cases.0 c.if-first-eq43.true) _ _
    c.in_ok-unsigned.ensures c.checked_add_unsigned.ensures (+ℤ_idl _)

pub returns-in_err-unsigned-2 : goal.returns-in_err-unsigned-2
returns-in_err-unsigned-2 c = rw c.from_residual-in_err-unsigned-2.ensures (no_number fits_neg
    (minus c.in_ok-first.ensures.cases.0 c.if-first-eq45.true) c.in_err-unsigned-2.ensures)

pub returns-then-first-eq45 : goal.returns-then-first-eq45
returns-then-first-eq45 c =
    by_sign fits_neg (minus c.in_ok-first.ensures.cases.0 c.if-first-eq45.true) _ _
    c.in_ok-unsigned-2.ensures c.checked_sub_unsigned.ensures (+ℤ_idl _)

pub returns-in_err-after_zero : goal.returns-in_err-after_zero
returns-in_err-after_zero c = rw c.from_residual-in_err-after_zero.ensures (no_number fits_pos
    (zeroed c.in_ok-first.ensures.cases.0 c.if-first-eq48.true c.if-text-gt1.true)
    c.in_err-after_zero.ensures)

pub returns-then-text-gt1 : goal.returns-then-text-gt1
returns-then-text-gt1 c =
    by_sign fits_pos (zeroed c.in_ok-first.ensures.cases.0 c.if-first-eq48.true
    c.if-text-gt1.true) _ _ c.in_ok-after_zero.ensures
    c.checked_add_unsigned-then-text-gt1.ensures (+ℤ_idl _)

pub returns-in_err-unsigned-3 : goal.returns-in_err-unsigned-3
returns-in_err-unsigned-3 c = rw c.from_residual-in_err-unsigned-3.ensures (no_number fits_pos
    (plain c.in_ok-first.ensures.cases.0 c.if-first-eq43.false c.if-first-eq45.false
    (λ e. elim c.else-first-eq48.branch [
      | else-first-eq48-via-then-first-eq48+else-text-gt1 w ↦ w.if-text-gt1.false
      | else-first-eq48-via-else-first-eq48 w ↦ absurd (w.if-first-eq48.false e)
    ])) c.in_err-unsigned-3.ensures)

pub returns : goal.returns
returns c =
    by_sign fits_pos (plain c.in_ok-first.ensures.cases.0 c.if-first-eq43.false
    c.if-first-eq45.false (λ e. elim c.else-first-eq48.branch [
      | else-first-eq48-via-then-first-eq48+else-text-gt1 w ↦ w.if-text-gt1.false
      | else-first-eq48-via-else-first-eq48 w ↦ absurd (w.if-first-eq48.false e)
    ])) _ _ c.in_ok-unsigned-3.ensures c.checked_add_unsigned-2.ensures (+ℤ_idl _)
