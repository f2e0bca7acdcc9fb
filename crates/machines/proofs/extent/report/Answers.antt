use Rattle.std.proofs.Common.{◌∙◌, arith, length, refl, sym}
use Rattle.std.proofs.lemmas.Bool.{eqb-false, eqb-true, iff_false}
use Rattle.std.proofs.lemmas.List.{nil_from_length}
use Rattle.machines.proofs.Extents.{ends_at, final_byte, final_end}
use Rattle.machines.proofs.extent.report.Goals as goal

pub returns-then-is_over : goal.returns-then-is_over
returns-then-is_over g c = (
  refl,
  final_end (g.M.Machine.grammar c.args.machine.now) c.args.state c.args.left.now
      (eqb-true (length c.args.left.now) 0 (sym c.is_empty.ensures ∙ c.if-is_empty.true))
      (ends_at (g.M.Machine.grammar c.args.machine.now) c.args.state c.if-is_over.true
      c.is_over.ensures),
)

pub returns-then-is_empty : goal.returns-then-is_empty
returns-then-is_empty g c = (
  nil_from_length c.args.left.now
      (eqb-true (length c.args.left.now) 0 (sym c.is_empty.ensures ∙ c.if-is_empty.true)),
  ends_at (g.M.Machine.grammar c.args.machine.now) c.args.state c.if-is_over.false
      c.is_over.ensures,
)

pub returns-then-is_done : goal.returns-then-is_done
returns-then-is_done g c = (
  refl,
  final_byte (g.M.Machine.grammar c.args.machine.now) c.args.state c.args.left.now
      (eqb-false (length c.args.left.now) 0 (sym c.is_empty.ensures ∙ c.if-is_empty.false))
      (c.is_done.ensures.0 c.if-is_done.true),
)

pub returns : goal.returns
returns g c =
    let some = eqb-false (length c.args.left.now) 0
    (sym c.is_empty.ensures ∙ c.if-is_empty.false) in (
      refl,
      omega (arith, some),
      iff_false c.is_done.ensures c.if-is_done.false,
    )
