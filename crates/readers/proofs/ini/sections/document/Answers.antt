use denote.Param.Always.{mut_total}
use Rattle.std.proofs.Common.{◌≡◌, ◌+◌, ◌∙◌, Bool, Some, true, false, refl, ap, sym, subst, length}
use Rattle.std.proofs.Common.{inl, inr}
use Rattle.std.specs.Prelude.{map}
use Rattle.winnow.specs.Equal.{same_some, true_is_false}
use Rattle.winnow.specs.FuncCalls.{calls_with_leave}
use Rattle.winnow.specs.Inversion.Outcomes.{fails_at}
use Rattle.winnow.specs.Left.{left_of}
use Rattle.readers.proofs.Calls.{err_with_by, ok_with_by}
use Rattle.readers.specs.DocumentRuns.{DocumentRuns}
use Rattle.readers.specs.Sections.{section_text}
use Rattle.readers.proofs.DocumentReading.{whole_document, refused_document, document_fails}
use Rattle.winnow.specs.Form.{inner_kind_of, marked_kind}
use Rattle.winnow.specs.Kind.{Kind, backtrack, memory}
use Rattle.winnow.specs.Mode.{as_inner}
use Rattle.readers.proofs.ini.sections.document.Goals as goal

inner_memory : (k inner : Kind) → k ≡ memory → inner_kind_of k ≡ Some inner → inner ≡ memory
inner_memory k inner is e =
    let P : Kind → Type 0 = λ x. inner_kind_of x ≡ Some inner in
    sym (same_some (subst P is e))

marked_memory : (is_memory : Bool) → as_inner (marked_kind is_memory) ≡ memory
    → marked_kind is_memory ≡ memory
marked_memory true e = refl
marked_memory false e = e

inner_backtracks : (k : Kind) → Some backtrack ≡ Some (as_inner k) → k ≡ memory → ⊥
inner_backtracks k told is = cc (same_some told ∙ ap as_inner is)

pub parse-requires-clause-callable : goal.parse-requires-clause-callable
parse-requires-clause-callable g c =
    (mut_total _ _ (λ s a. tt), calls_with_leave _ _ (λ s x r y t met. met.0))

pub returns-in-Ok : goal.returns-in-Ok
returns-in-Ok g c =
    let (j, ran, nothing) = c.in-Ok.ensures.ran in
    let run = ok_with_by (DocumentRuns (λ all. map section_text all.items)) (λ i x j met. met.0)
    (λ s x r y t met. met) ran.3 in
    whole_document (λ all. map section_text all.items) _ _ _ run nothing

pub unreachable-requires : goal.unreachable-requires
unreachable-requires g c =
    let wants = c.in-Err-Incomplete.field-0-is in
    elim c.in-Err-Incomplete.ensures.ran [
      | inl (k, j, ran, fault) ↦
          let (l, run) = err_with_by (DocumentRuns (λ all. map section_text all.items))
          (λ i x j met. met.0) (λ s x r y t met. met)
          (_, ran.3, fails_at k (_, left_of j)) in
          let is = (document_fails (λ all. map section_text all.items) _ _ _ run).1 in
          absurd (cc (sym is ∙ (rw wants at fault)))
      | inr (o, j, ran, something, fault) ↦ absurd (cc (rw wants at fault))
    ]

pub returns-then-is_memory : goal.returns-then-is_memory
returns-then-is_memory g c =
    let refused = c.in-Err-Invalid.field-0-is in
    elim c.in-Err-Invalid.ensures.ran [
      | inl (k, j, ran, fault) ↦
          let (l, run) = err_with_by (DocumentRuns (λ all. map section_text all.items))
          (λ i x j met. met.0) (λ s x r y t met. met)
          (_, ran.3, fails_at k (_, left_of j)) in
          (document_fails (λ all. map section_text all.items) _ _ _ run).0
      | inr (o, j, ran, something, fault) ↦
          let told = (rw refused at fault).1 in
          absurd (inner_backtracks _ told
          (ap (λ e. marked_kind e.is_memory) (sym c.inner.ensures)
          ∙ c.is_memory.ensures.0 c.if-is_memory.true))
    ]

pub returns-else-is_memory : goal.returns-else-is_memory
returns-else-is_memory g c =
    let refused = c.in-Err-Invalid.field-0-is in
    elim c.in-Err-Invalid.ensures.ran [
      | inl (k, j, ran, fault) ↦
          let told = (rw refused at fault).1 in
          let (l, run) = err_with_by (DocumentRuns (λ all. map section_text all.items))
          (λ i x j met. met.0) (λ s x r y t met. met)
          (_, ran.3, fails_at k (_, left_of j)) in
          let is = inner_memory k _
          (document_fails (λ all. map section_text all.items) _ _ _ run).1 told in
          absurd (true_is_false
          (sym (c.is_memory.ensures.1
          (ap (λ e. marked_kind e.is_memory) c.inner.ensures ∙ marked_memory _ is))
          ∙ c.if-is_memory.false))
      | inr (o, j, ran, something, fault) ↦
          let at = ap (λ m. m + length j.left.tokens) c.offset.ensures ∙ (rw refused at fault).0 in
          let run = ok_with_by (DocumentRuns (λ all. map section_text all.items))
          (λ i x j met. met.0) (λ s x r y t met. met) ran.3 in
          refused_document (λ all. map section_text all.items) _ o _ _ run something at
    ]
