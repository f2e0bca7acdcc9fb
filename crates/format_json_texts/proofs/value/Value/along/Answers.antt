use Rattle.std.proofs.Common.{None, Option, arith, option_map, subst, sym}
use Rattle.format_json_texts.proofs.Named.{stepped, stepped_all, stepped_none}
use Rattle.format_json_texts.specs.Kinds.{IsFoundAlong}
use Rattle.format_json_texts.proofs.value.Value.along.Goals as goal

pub returns-in_err-target : goal.returns-in_err-target
returns-in_err-target g c =
    let P : Option _ → Type 0 =
    λ o. IsFoundAlong c.args.path.now c.args.self.now (option_map (λ v. v.now) o) in
    subst P (sym c.from_residual.ensures)
    (c.steps.invariant None
    (stepped_none c.args.path.now c.steps.step-index _ c.steps.target.now (omega arith)
    c.in_err-target.ensures))

pub steps-preserved : goal.steps-preserved
steps-preserved g c found x =
    c.steps.invariant found
    (stepped c.args.path.now c.steps.step-index _ c.steps.target.now c.in_ok-target.target.now
    found (omega arith) c.in_ok-target.ensures x)

pub returns : goal.returns
returns g c =
    c.steps.invariant _
    (stepped_all c.args.path.now c.steps.step-index c.steps.target.now c.steps-test.false)
