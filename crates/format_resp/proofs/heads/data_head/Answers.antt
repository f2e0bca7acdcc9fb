use Rattle.std.specs.Prelude.{Bool, None, Some}
use Rattle.std.proofs.Common.{ap, refl, sym}
use Rattle.format_resp.proofs.FirstLines.{no_null, only_dollar}
use Rattle.format_resp.specs.declared.heads.Head.{Head}
use Rattle.format_resp.specs.declared.heads.Head.TheVariants as heads
use Rattle.format_resp.specs.declared.marks.Mark.TheVariants.{Data}
use Rattle.format_resp.proofs.heads.data_head.Goals as goal

pub returns-in-Some-Some-clause-head : goal.returns-in-Some-Some-clause-head
returns-in-Some-Some-clause-head c =
    let is = rw c.in-Some-Some.field-0-is at c.in-Some-Some.ensures.some in
    let made : Bool → Head = λ v.
    heads.Data (record { size = c.in-Some-Some.size; verbatim = v }) in
    (Some c.in-Some-Some.size, is, ap made (sym c.is_formatted.ensures), tt)

pub returns-in-Dollar-clause-head : goal.returns-in-Dollar-clause-head
returns-in-Dollar-clause-head c =
    let is = rw c.in-Some-None.field-0-is at c.in-Some-None.ensures.some in
    (None, is, rw c.in-Dollar.is (tt, refl), tt)

pub returns-in_default-clause-rejected : goal.returns-in_default-clause-rejected
returns-in_default-clause-rejected c =
    let is = rw c.in-Some-None.field-0-is at c.in-Some-None.ensures.some in
    no_null (Data c.args.mark) c.args.line.now (λ of e. cc) is
    (only_dollar c.args.mark c.in_default.not-Dollar)

pub returns-in-None-clause-rejected : goal.returns-in-None-clause-rejected
returns-in-None-clause-rejected c =
    (λ head (size, a, is, small). c.in-None.ensures.none refl size a, c.size_reason.ensures)
