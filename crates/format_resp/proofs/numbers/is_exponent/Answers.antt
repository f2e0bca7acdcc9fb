use Rattle.std.proofs.Common.{inl, inr}
use Rattle.format_resp.proofs.NumberTexts.{exponent_back, exponent_letter, exponent_none}
use Rattle.format_resp.proofs.NumberTexts.{exponent_other, match_bool_map}
use Rattle.format_resp.proofs.numbers.is_exponent.Goals as goal
use Rattle.format_resp.proofs.numbers.is_exponent.Goals.{
  then-first-eq101-via-then-first-eq101,
  then-first-eq101-via-else-first-eq101+then-first-eq69,
}

pub returns-in_default : goal.returns-in_default
returns-in_default c = exponent_none c.args.bytes.now c.in_default.ensures.cases

pub returns-then-first-eq101 : goal.returns-then-first-eq101
returns-then-first-eq101 c = match_bool_map _ _ _ _ c.is_big_number.result
    (λ a. elim c.then-first-eq101.branch [
      | then-first-eq101-via-then-first-eq101 w ↦
          exponent_letter _ _ _ (inr w.if-first-eq101.true) c.in-Some.ensures.cases.0 a
      | then-first-eq101-via-else-first-eq101+then-first-eq69 w ↦
          exponent_letter _ _ _ (inl w.if-first-eq69.true) c.in-Some.ensures.cases.0 a
    ])
    (λ none x. none (exponent_back _ _ _ c.in-Some.ensures.cases.0 x)) c.is_big_number.ensures

pub returns : goal.returns
returns c =
    exponent_other _ _ _ c.in-Some.ensures.cases.0 c.if-first-eq69.false c.if-first-eq101.false
