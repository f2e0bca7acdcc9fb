use Rattle.std.proofs.Common.{inl, refl, subst, sym}
use Rattle.std.specs.Prelude.{List, ◌↔◌}
use Rattle.format_http.proofs.BodiesLemmas.Lengths.{both_ways, skipped}
use Rattle.format_http.specs.Bodies.Fields.{HasOne}
use Rattle.format_http.specs.Heads.Head.{Pair}
use Rattle.streams.specs.Equal.{true_is_false}
use Rattle.format_http.proofs.bodies.fields.has.Goals as goal

pub returns-then-eq_ignore_ascii_case : goal.returns-then-eq_ignore_ascii_case
returns-then-eq_ignore_ascii_case g c =
    let name = c.args.name.now in
    let P : List Pair → Type 0 = λ l. HasOne name l in (
      λ _. c.passed.invariant.0 (subst P (sym c.in-Some.ensures)
          (inl (c.if-eq_ignore_ascii_case.ensures.test.0 refl))),
      λ _. refl,
    )

pub passed-preserved : goal.passed-preserved
passed-preserved g c =
    let name = c.args.name.now in
    let P : List Pair → Type 0 =
    λ l. HasOne name l ↔ HasOne name (g.F.Fields.pairs c.args.fields) in
    both_ways (skipped (λ is. true_is_false (sym (c.if-eq_ignore_ascii_case.ensures.test.1 is))))
    (subst P c.in-Some.ensures c.passed.invariant)

pub returns : goal.returns
returns g c =
    let P : List Pair → Type 0 =
    λ l. HasOne c.args.name.now l ↔ HasOne c.args.name.now (g.F.Fields.pairs c.args.fields) in
    let is = subst P c.in_default.ensures c.passed.invariant in
    ((λ e. absurd (true_is_false (sym e))), (λ x. absurd (is.1 x)))
