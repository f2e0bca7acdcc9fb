use Rattle.std.proofs.Common.{ap, inl, refl, subst, sym, ◌∙◌}
use Rattle.std.specs.Char.{to_ascii_lowercase}
use Rattle.std.specs.Prelude.{List, map, ◌↔◌}
use Rattle.format_http.proofs.BodiesLemmas.Lengths.{both_ways, skipped}
use Rattle.format_http.specs.Bodies.Codings.{HaveInvalid}
use Rattle.format_http.specs.Heads.Head.{Pair}
use Rattle.streams.specs.Equal.{true_is_false}
use Rattle.format_http.proofs.bodies.invalid.have_invalid.Goals as goal
use Rattle.format_http.proofs.bodies.invalid.have_invalid.Goals.{
  else-eq_ignore_ascii_case-via-then-eq_ignore_ascii_case+else-has_invalid,
  else-eq_ignore_ascii_case-via-else-eq_ignore_ascii_case,
}

pub returns-then-has_invalid : goal.returns-then-has_invalid
returns-then-has_invalid g c =
    let P : List Pair → Type 0 = λ l. HaveInvalid l in (
      λ _. c.passed.invariant.0 (subst P (sym c.in-Some.ensures) (inl (
        c.if-eq_ignore_ascii_case.ensures.test.0 refl
            ∙ ap (λ l. map to_ascii_lowercase l) c.as_slice.ensures,
        c.if-has_invalid.ensures.0 refl,
      ))),
      λ _. refl,
    )

pub passed-preserved : goal.passed-preserved
passed-preserved g c =
    let P : List Pair → Type 0 =
    λ l. HaveInvalid l ↔ HaveInvalid (g.F.Fields.pairs c.args.fields) in
    let spelled = ap (λ l. map to_ascii_lowercase l) c.as_slice.ensures in
    both_ways (skipped (λ (named, is). elim c.else-eq_ignore_ascii_case.branch [
      | else-eq_ignore_ascii_case-via-then-eq_ignore_ascii_case+else-has_invalid w ↦
          true_is_false (sym (w.has_invalid.ensures.1 is) ∙ w.if-has_invalid.false)
      | else-eq_ignore_ascii_case-via-else-eq_ignore_ascii_case w ↦
          true_is_false (sym (w.if-eq_ignore_ascii_case.ensures.test.1 (named ∙ sym spelled)))
    ])) (subst P c.in-Some.ensures c.passed.invariant)

pub returns : goal.returns
returns g c =
    let P : List Pair → Type 0 =
    λ l. HaveInvalid l ↔ HaveInvalid (g.F.Fields.pairs c.args.fields) in
    let is = subst P c.in_default.ensures c.passed.invariant in
    ((λ e. absurd (true_is_false (sym e))), (λ x. absurd (is.1 x)))
