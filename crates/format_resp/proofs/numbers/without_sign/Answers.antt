use Rattle.std.proofs.Common.{inl, inr, refl}
use Rattle.std.proofs.lemmas.List.{nil_from_length}
use Rattle.format_resp.proofs.NumberTexts.{no_sign, some_sign}
use Rattle.format_resp.proofs.numbers.without_sign.Goals as goal
use Rattle.format_resp.proofs.numbers.without_sign.Goals.{
  then-first-eq43-via-then-first-eq43,
  then-first-eq43-via-else-first-eq43+then-first-eq45,
}

pub returns-in_default : goal.returns-in_default
returns-in_default c = rw (nil_from_length _ c.in_default.ensures.cases) refl

pub returns-then-first-eq43 : goal.returns-then-first-eq43
returns-then-first-eq43 c = elim c.then-first-eq43.branch [
  | then-first-eq43-via-then-first-eq43 w ↦
      some_sign _ _ _ (inl w.if-first-eq43.true) c.in-Some.ensures.cases.0
  | then-first-eq43-via-else-first-eq43+then-first-eq45 w ↦
      some_sign _ _ _ (inr w.if-first-eq45.true) c.in-Some.ensures.cases.0
]

pub returns : goal.returns
returns c =
    no_sign _ _ _ c.in-Some.ensures.cases.0 c.if-first-eq43.false c.if-first-eq45.false
