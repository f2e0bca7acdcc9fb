use Rattle.std.proofs.Common.{◌≡◌, ◌+◌, ◌-◌, ◌*◌, ℕ, List, ◌∷◌, arith, rules, length}
use Rattle.std.proofs.Common.{ap, subst}
use Rattle.format_json_texts.specs.NumberParts.{IsDigit}
use Rattle.format_json_texts.specs.Digits.{IsReduced, IsTooLong}
use Rattle.format_json_texts.proofs.Going.{goes_on, no_more, stays_long}
use Rattle.format_json_texts.proofs.Going.{stops_reduced}
use Rattle.format_json_texts.proofs.digits.push_digits.Goals as goal

pub returns-then-first-lt48-clause-reduced : goal.returns-then-first-lt48-clause-reduced
returns-then-first-lt48-clause-reduced c = λ n total rest is goes.
    let (now, small, on) = c.digits.invariant.2 n total rest is goes in
    let first = c.in-Some.first.now in
    let no_digit : IsDigit first → ⊥ = λ digit. elim c.then-first-lt48.branch [
      | goal.then-first-lt48-via-then-first-lt48 w ↦ omega (arith, digit, w.if-first-lt48.true)
      | goal.then-first-lt48-via-else-first-lt48+then-first-gt57 w ↦
          omega (arith, digit, w.if-first-gt57.true)
    ] in
    let begins : c.digits.left.now ≡ first ∷ c.in-Some.more.now = search rules in
    stops_reduced now total _ _ c.digits.left.now rest small on (no_more first _ _ begins no_digit)

pub returns-in_err-read-in-Some-clause-reduced : goal.returns-in_err-read-in-Some-clause-reduced
returns-in_err-read-in-Some-clause-reduced c = λ n total rest is goes.
    let (now, small, on) = c.digits.invariant.2 n total rest is goes in
    let first = c.in-Some.first.now in
    let begins : c.digits.left.now ≡ first ∷ c.in-Some.more.now = search rules in
    let digit : c.from.result ≡ first - 48 = search rules in
    let more = goes_on now total first c.digits.left.now c.in-Some.more.now rest on begins
    (omega (arith, c.if-first-lt48.false), omega (arith, c.if-first-gt57.false)) in
    let P : ℕ → Type 0 = λ d. IsTooLong (now * 10 + d) in
    let long = stays_long _ total _ rest more
    (subst P digit (c.in_err-read-in-Some.ensures.reduced now small)) in
    search rules

pub digits-preserved : goal.digits-preserved
digits-preserved c = (
  search rules,
  search rules,
  λ n total rest is goes.
      let (now, small, on) = c.digits.invariant.2 n total rest is goes in
      let first = c.in-Some.first.now in
      let begins : c.digits.left.now ≡ first ∷ c.in-Some.more.now = search rules in
      let digit : c.from.result ≡ first - 48 = search rules in
      let more = goes_on now total first c.digits.left.now c.in-Some.more.now rest on begins
      (omega (arith, c.if-first-lt48.false), omega (arith, c.if-first-gt57.false)) in
      let P : ℕ → Type 0 = λ d. IsReduced (now * 10 + d) c.in_ok-read-in-Some.read.digits
      c.in_ok-read-in-Some.read.zeros in (
        now * 10 + (first - 48),
        subst P digit (c.in_ok-read-in-Some.ensures.reduced now small),
        more,
      ),
)

pub returns-in-None-clause-reduced : goal.returns-in-None-clause-reduced
returns-in-None-clause-reduced c = λ n total rest is goes.
    let (now, small, on) = c.digits.invariant.2 n total rest is goes in
    let empty : length c.digits.left.now ≡ 0 = search rules in
    stops_reduced now total _ _ c.digits.left.now rest small on
    (λ b more e. absurd (omega (arith, empty, ap (λ (l : List ℕ). length l) e)))
