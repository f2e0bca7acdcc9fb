use Rattle.std.proofs.Common.{ap, inl, refl, subst, sym, ◌∙◌}
use Rattle.std.specs.Char.{to_ascii_lowercase}
use Rattle.std.specs.Prelude.{List, map, ◌↔◌}
use Rattle.format_http.proofs.BodiesLemmas.Lengths.{both_ways, skipped}
use Rattle.format_http.specs.Heads.Hosts.{HasInvalidHost}
use Rattle.format_http.specs.Heads.Head.{Pair}
use Rattle.streams.specs.Equal.{true_is_false}
use Rattle.format_http.proofs.heads.hosts.has_invalid_host.Goals as goal
use Rattle.format_http.proofs.heads.hosts.has_invalid_host.Goals.{
  else-eq_ignore_ascii_case-via-then-eq_ignore_ascii_case+else-not-is_host,
  else-eq_ignore_ascii_case-via-else-eq_ignore_ascii_case,
}

pub returns-then-not-is_host : goal.returns-then-not-is_host
returns-then-not-is_host g c =
    let P : List Pair → Type 0 = λ l. HasInvalidHost l in (
      λ _. c.passed.invariant.0 (subst P (sym c.in-Some.ensures) (inl (
        c.if-eq_ignore_ascii_case.ensures.test.0 refl
            ∙ ap (λ l. map to_ascii_lowercase l) c.as_slice.ensures,
        λ valid. true_is_false (sym (c.is_host.ensures.1 valid) ∙ c.if-not-is_host.true),
      ))),
      λ _. refl,
    )

pub passed-preserved : goal.passed-preserved
passed-preserved g c =
    let P : List Pair → Type 0 =
    λ l. HasInvalidHost l ↔ HasInvalidHost (g.F.Fields.pairs c.args.fields) in
    let spelled = ap (λ l. map to_ascii_lowercase l) c.as_slice.ensures in
    both_ways (skipped (λ (named, is). elim c.else-eq_ignore_ascii_case.branch [
      | else-eq_ignore_ascii_case-via-then-eq_ignore_ascii_case+else-not-is_host w ↦
          is (w.is_host.ensures.0 w.if-not-is_host.false)
      | else-eq_ignore_ascii_case-via-else-eq_ignore_ascii_case w ↦
          true_is_false (sym (w.if-eq_ignore_ascii_case.ensures.test.1 (named ∙ sym spelled)))
    ])) (subst P c.in-Some.ensures c.passed.invariant)

pub returns : goal.returns
returns g c =
    let P : List Pair → Type 0 =
    λ l. HasInvalidHost l ↔ HasInvalidHost (g.F.Fields.pairs c.args.fields) in
    let is = subst P c.in_default.ensures c.passed.invariant in
    ((λ e. absurd (true_is_false (sym e))), (λ x. absurd (is.1 x)))
