use Rattle.std.proofs.Common.{ap, arith, subst, ◌∙◌}
use Rattle.std.proofs.lemmas.Bool.Decides.{nat_tests}
use Rattle.std.specs.Prelude.{List, ℕ, ◌↔◌}
use Rattle.format_http.proofs.BodiesLemmas.Invalid.{valid_part}
use Rattle.format_http.proofs.BodiesLemmas.Lengths.{both_ways}
use Rattle.format_http.specs.Bodies.Codings.{HasInvalid}
use Rattle.format_http.specs.Bodies.Lists.{quoted_parts_in, quoted_parts_of}
use Rattle.format_http.proofs.bodies.invalid.has_invalid.Goals as goal
use Rattle.format_http.proofs.bodies.invalid.has_invalid.Goals.{
  else-not-is_empty-via-then-not-is_empty+else-not-is_coding,
  else-not-is_empty-via-else-not-is_empty,
}

pub parts-preserved : goal.parts-preserved
parts-preserved c =
    let e = ap quoted_parts_in c.in-Some.is ∙ c.next_quoted_part.ensures in
    let P : List (List ℕ) → Type 0 =
    λ l. HasInvalid l ↔ HasInvalid (quoted_parts_of c.args.list.now)
    in
    both_ways (valid_part _ _ c.element_of-coding.result.now c.element_of-coding.ensures
    (λ some none. elim c.else-not-is_empty.branch [
      | else-not-is_empty-via-then-not-is_empty+else-not-is_coding w ↦
          none (w.is_coding.ensures.0 w.if-not-is_coding.false)
      | else-not-is_empty-via-else-not-is_empty w ↦
          absurd (grind (arith, nat_tests, some, w.if-not-is_empty.false, c.is_empty.ensures))
    ])) (subst P e c.parts.invariant)
