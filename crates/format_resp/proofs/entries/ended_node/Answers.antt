use Rattle.std.specs.Prelude.{◌-◌, ⊤, ℕ, List, length, ◌+◌, pos}
use Rattle.std.proofs.Common.{ap, arith, refl, subst, ◌∙◌}
use Rattle.std.proofs.lemmas.List.{nil_from_length}
use Rattle.format_resp.proofs.FirstLines.{line_at}
use Rattle.format_resp.proofs.NodeTexts.{ended_line, line_found, mark_found, no_bytes, no_mark}
use Rattle.format_resp.proofs.NodeTexts.{array_kind, bulk_kind, ended_null}
use Rattle.format_resp.specs.Resp.{Any, LineContents, Replies}
use Rattle.format_resp.specs.Writing.{IsLineNode}
use Rattle.format_resp.specs.declared.heads.Head.TheVariants as heads
use Rattle.format_resp.specs.declared.marks.Mark.TheVariants.{Aggregate, Data, Line}
use Rattle.format_resp.specs.Nodes.{number_node}
use Rattle.format_resp.proofs.entries.ended_node.Goals as goal

pub returns-in-None : goal.returns-in-None
returns-in-None c protocol found =
    no_bytes protocol heads.Ends c.args.bytes.now c.args.left.now
    (nil_from_length _ c.in-None.ensures.cases) found

pub returns-in-None-any_mark : goal.returns-in-None-any_mark
returns-in-None-any_mark c protocol found =
    no_mark protocol heads.Ends c.args.bytes.now c.args.left.now _ _ c.in-Some.ensures.cases.0
    (c.in-None-any_mark.ensures.none refl) found

pub returns-in-Some-Line : goal.returns-in-Some-Line
returns-in-Some-Line c protocol found =
    let mark = c.in-Some-Line.mark in
    let bytes = c.args.bytes.now in
    let left = c.args.left.now in
    let byte = c.in-Some.byte.now in
    let text = c.in-Some.text.now in
    let split = c.in-Some.ensures.cases.0 in
    let at = line_at protocol bytes left found in
    let is = mark_found protocol heads.Ends bytes left (Line mark) byte text split
    (rw c.in-Some-Line.field-0-is at c.in-Some-Line.ensures.some) at in
    let P : List ℕ → Type 0 = λ l. (reply : Replies ⊤) → LineContents Any mark reply l
    → IsLineNode mark l (c.args.size - length text) c.args.index c.line_node.result in
    ended_line protocol c.args.size c.args.index bytes left c.line_node.result mark
    (c.args.size - length text) (omega (arith, ap (λ l. length l) split, c.requires))
    (omega (arith, c.requires)) at is
    (subst P (c.line_before.ensures.line at.line
    (line_found protocol heads.Ends bytes left byte text split at)) c.line_node.ensures)

pub returns-in-Some-Data : goal.returns-in-Some-Data
returns-in-Some-Data c protocol found =
    let bytes = c.args.bytes.now in
    let left = c.args.left.now in
    let at = line_at protocol bytes left found in
    ended_null protocol c.args.size c.args.index bytes left _ (Data c.in-Some-Data._mark)
    (λ of e. cc) (λ null. c.of_number.ensures ∙ ap (λ k. number_node k (pos 0) (c.args.index + 1))
    (bulk_kind c.in-Some-Data._mark null)) at
    (mark_found protocol heads.Ends bytes left (Data c.in-Some-Data._mark)
    c.in-Some.byte.now c.in-Some.text.now c.in-Some.ensures.cases.0
    (rw c.in-Some-Data.field-0-is at c.in-Some-Data.ensures.some) at)

pub returns-in-Some-Aggregate : goal.returns-in-Some-Aggregate
returns-in-Some-Aggregate c protocol found =
    let bytes = c.args.bytes.now in
    let left = c.args.left.now in
    let at = line_at protocol bytes left found in
    ended_null protocol c.args.size c.args.index bytes left _
    (Aggregate c.in-Some-Aggregate._mark) (λ of e. cc)
    (λ null. c.of_number-in-Some-Aggregate.ensures
    ∙ ap (λ k. number_node k (pos 0) (c.args.index + 1))
    (array_kind c.in-Some-Aggregate._mark null)) at
    (mark_found protocol heads.Ends bytes left (Aggregate c.in-Some-Aggregate._mark)
    c.in-Some.byte.now c.in-Some.text.now c.in-Some.ensures.cases.0
    (rw c.in-Some-Aggregate.field-0-is at c.in-Some-Aggregate.ensures.some) at)
