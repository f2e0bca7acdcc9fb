use Rattle.std.proofs.Common.{arith, inl, inr, sym, ◌∙◌}
use Rattle.std.proofs.lemmas.Bool.{not-true, not_from_false, true≢false}
use Rattle.format_toml.specs.Digits.{true_false}
use Rattle.format_toml.specs.FloatCuts.{are_goes}
use Rattle.format_toml.proofs.floats.are_digits.Goals as goal
use Rattle.format_toml.proofs.floats.are_digits.Goals.{
  else-byte-eq95-via-then-byte-eq95+else-not-due,
}
use Rattle.format_toml.proofs.floats.are_digits.Goals.{else-byte-eq95-via-else-byte-eq95}
use Rattle.format_toml.proofs.floats.are_digits.Goals.{then-is_ascii_digit}
use Rattle.format_toml.proofs.floats.are_digits.Goals.{
  else-is_ascii_digit+then-byte-eq95+then-not-due,
}
use Rattle.format_toml.proofs.DigitsLemmas.{goes_end, goes_next, goes_stop}
use Rattle.format_toml.proofs.FloatCutsLemmas.{has_value, no_value}

pub returns-else-byte-eq95 : goal.returns-else-byte-eq95
returns-else-byte-eq95 c = (
  λ bad. absurd (true≢false (sym bad)),
  λ x. absurd (goes_stop c.loop-byte.invariant c.loop-byte-test.true
      (no_value _ c.if-is_ascii_digit.ensures.cases)
      (λ under ready. elim c.else-byte-eq95.branch [
        | else-byte-eq95-via-then-byte-eq95+else-not-due w ↦
            true_false (sym w.if-not-due.false ∙ ready)
        | else-byte-eq95-via-else-byte-eq95 w ↦ w.if-byte-eq95.false under
      ]) ((are_goes _).0 x)),
)

pub loop-byte-preserved : goal.loop-byte-preserved
loop-byte-preserved c =
    goes_next c.loop-byte.invariant (omega arith) c.loop-byte-test.true (elim
    c.if-is_ascii_digit.branch [
      | then-is_ascii_digit w ↦
          inl (has_value _ w.if-is_ascii_digit.ensures.cases, w.due-is)
      | else-is_ascii_digit+then-byte-eq95+then-not-due w ↦
          inr (w.if-byte-eq95.true, w.if-not-due.true, w.due-is)
    ])

pub returns : goal.returns
returns c =
    let (ends, done) = goes_end c.loop-byte.invariant c.loop-byte-test.false in (
      λ is. (are_goes _).1 (done (not-true _ is)),
      λ x. not_from_false _ (ends ((are_goes _).0 x)),
    )
