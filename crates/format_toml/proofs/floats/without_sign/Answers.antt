use Rattle.std.proofs.Common.{inl, inr}
use Rattle.format_toml.proofs.floats.without_sign.Goals as goal
use Rattle.format_toml.proofs.floats.without_sign.Goals.{then-first-eq43-via-then-first-eq43}
use Rattle.format_toml.proofs.floats.without_sign.Goals.{
  then-first-eq43-via-else-first-eq43+then-first-eq45,
}
use Rattle.format_toml.proofs.FloatCutsLemmas.{no_sign, no_text, some_sign}

pub returns-in_default : goal.returns-in_default
returns-in_default c = no_text c.args.text.now c.in_default.ensures.cases

pub returns-then-first-eq43 : goal.returns-then-first-eq43
returns-then-first-eq43 c = elim c.then-first-eq43.branch [
  | then-first-eq43-via-then-first-eq43 w ↦
      some_sign (inr w.if-first-eq43.true) c.in-Some.ensures.cases.0
  | then-first-eq43-via-else-first-eq43+then-first-eq45 w ↦
      some_sign (inl w.if-first-eq45.true) c.in-Some.ensures.cases.0
]

pub returns : goal.returns
returns c = no_sign c.in-Some.ensures.cases.0 c.if-first-eq43.false c.if-first-eq45.false
