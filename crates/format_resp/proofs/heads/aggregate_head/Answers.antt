use Rattle.std.specs.Prelude.{None, Some, ℕ}
use Rattle.std.proofs.Common.{ap, arith, refl, sym}
use Rattle.format_resp.proofs.FirstLines.{too_many, no_null, only_star}
use Rattle.format_resp.specs.declared.heads.Head.TheVariants.{Replies}
use Rattle.format_resp.specs.declared.marks.Mark.TheVariants.{Aggregate}
use Rattle.format_resp.proofs.heads.aggregate_head.Goals as goal

pub returns-then-count-le-MOST-clause-head : goal.returns-then-count-le-MOST-clause-head
returns-then-count-le-MOST-clause-head c =
    let is = rw c.in-Some-Some.field-0-is at c.in-Some-Some.ensures.some in
    let many = c.in-Some.ensures.some in (
      Some c.in-Some-Some.size,
      is,
      ap (λ (n : ℕ). Replies n) (sym many),
      omega (arith, many, c.if-count-le-MOST.true),
    )

pub returns-else-count-le-MOST-clause-rejected : goal.returns-else-count-le-MOST-clause-rejected
returns-else-count-le-MOST-clause-rejected c =
    let is = rw c.in-Some-Some.field-0-is at c.in-Some-Some.ensures.some in
    too_many c.args.mark c.in-Some-Some.size c.args.line.now is
    (omega (arith, c.in-Some.ensures.some, c.if-count-le-MOST.false))

pub returns-in-None-count_of-clause-rejected : goal.returns-in-None-count_of-clause-rejected
returns-in-None-count_of-clause-rejected c =
    let is = rw c.in-Some-Some.field-0-is at c.in-Some-Some.ensures.some in
    too_many c.args.mark c.in-Some-Some.size c.args.line.now is
    (omega (arith, c.in-None-count_of.ensures.none refl))

pub returns-in-Star-clause-head : goal.returns-in-Star-clause-head
returns-in-Star-clause-head c =
    let is = rw c.in-Some-None.field-0-is at c.in-Some-None.ensures.some in
    (None, is, rw c.in-Star.is (tt, refl), tt)

pub returns-in_default-clause-rejected : goal.returns-in_default-clause-rejected
returns-in_default-clause-rejected c =
    let is = rw c.in-Some-None.field-0-is at c.in-Some-None.ensures.some in
    no_null (Aggregate c.args.mark) c.args.line.now (λ of e. cc) is
    (only_star c.args.mark c.in_default.not-Star)

pub returns-in-None-clause-rejected : goal.returns-in-None-clause-rejected
returns-in-None-clause-rejected c =
    (λ head (size, a, is, small). c.in-None.ensures.none refl size a, c.size_reason.ensures)
