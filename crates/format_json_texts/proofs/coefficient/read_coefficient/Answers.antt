use Rattle.std.proofs.Common.{◌≡◌, ◌∙◌, ◌∷◌, List, ℕ, ap, arith, length, length-append, rules, sym}
use Rattle.format_json_texts.proofs.Coefficients.{fraction_goes, fraction_none, nothing_read}
use Rattle.format_json_texts.proofs.Coefficients.{whole_goes, whole_too_long}
use Rattle.format_json_texts.proofs.Going.{heads_equal}
use Rattle.format_json_texts.proofs.coefficient.read_coefficient.Goals as goal
use Rattle.format_json_texts.proofs.coefficient.read_coefficient.Goals.{in-Some+else-first-eq46}
use Rattle.format_json_texts.proofs.coefficient.read_coefficient.Goals.{in-None}

pub returns-in_err-whole : goal.returns-in_err-whole
returns-in_err-whole c = λ text n is joins.
    let long = whole_too_long text n is (c.in_err-whole.ensures.reduced 0 _ _ nothing_read
    (whole_goes text n is _ joins)) in
    search rules

pub returns-in_err-all-in-Some : goal.returns-in_err-all-in-Some
returns-in_err-all-in-Some c = λ text n is joins.
    let (there, small) = c.in_ok-whole.ensures.reduced 0 _ _ nothing_read
    (whole_goes text n is _ joins) in
    let begins : c.in_ok-whole.rest.now ≡ c.in-Some.first.now ∷ c.in-Some.digits.now =
    search rules in
    let (_, goes) = fraction_goes text n is _ c.in-Some.digits.now there
    (begins ∙ ap (λ b. b ∷ c.in-Some.digits.now) c.if-first-eq46.true) in
    let long = c.in_err-all-in-Some.ensures.reduced _ _ _ small goes in
    search rules

pub returns-then-first-eq46 : goal.returns-then-first-eq46
returns-then-first-eq46 c = λ text n is joins.
    let (there, small) = c.in_ok-whole.ensures.reduced 0 _ _ nothing_read
    (whole_goes text n is _ joins) in
    let begins : c.in_ok-whole.rest.now ≡ c.in-Some.first.now ∷ c.in-Some.digits.now =
    search rules in
    let (split, goes) = fraction_goes text n is _ c.in-Some.digits.now there
    (begins ∙ ap (λ b. b ∷ c.in-Some.digits.now) c.if-first-eq46.true) in
    let (end, all) = c.in_ok-all-in-Some.ensures.reduced _ _ _ small goes in (
      end,
      omega (
        arith,
        ap (λ (l : List ℕ). length l) split,
        length-append n.fraction is.exponent,
        ap (λ (l : List ℕ). length l) end,
      ),
      all,
    )

pub returns : goal.returns
returns c = λ text n is joins.
    let (there, small) = c.in_ok-whole.ensures.reduced 0 _ _ nothing_read
    (whole_goes text n is _ joins) in
    let none : (more : List ℕ) → c.in_ok-whole.rest.now ≡ 46 ∷ more → ⊥ = λ more e.
    elim c.match-split_first.branch [
      | in-Some+else-first-eq46 w ↦
          let begins : c.in_ok-whole.rest.now ≡ w.in-Some.first.now ∷ w.in-Some.digits.now =
          w.in-Some.ensures.cases.0 in
          w.if-first-eq46.false (heads_equal (sym begins ∙ e))
      | in-None w ↦ omega (arith, w.in-None.ensures.cases, ap (λ (l : List ℕ). length l) e)
    ] in
    fraction_none text n is _ c.in_ok-whole.whole.digits c.in_ok-whole.whole.zeros there none small
