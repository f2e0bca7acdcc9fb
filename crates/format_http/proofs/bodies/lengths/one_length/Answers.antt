use Rattle.std.proofs.Common.{ap, inl, inr, refl, subst, sym, ◌∙◌}
use Rattle.std.specs.Char.{to_ascii_lowercase}
use Rattle.std.specs.Prelude.{List, map, ℕ, ◌↔◌, ◌⊎◌}
use Rattle.format_http.proofs.BodiesLemmas.Lengths.{both_ways, field_has, field_more, other_more}
use Rattle.format_http.specs.Bodies.Lengths.{HasLength}
use Rattle.format_http.specs.Bodies.Lists.{IsThe}
use Rattle.format_http.specs.Heads.Head.{Pair, pair}
use Rattle.streams.specs.Equal.{true_is_false}
use Rattle.format_http.proofs.bodies.lengths.one_length.Goals as goal

pub returns-in-Err-clause-many : goal.returns-in-Err-clause-many
returns-in-Err-clause-many g c =
    let (is, text, other, one, more, differ) = c.in-Err.ensures.many in
    let f = pair c.in-Some.field in
    let rest = g.F.Fields.pairs c.next.new.self in
    let found = c.passed.one in
    let P : List ℕ → List Pair → Type 0 = λ t l. IsThe found t ⊎ HasLength t l in
    let named = c.if-eq_ignore_ascii_case.ensures.test.0 refl
    ∙ ap (λ l. map to_ascii_lowercase l) c.as_slice.ensures in (
      is,
      text,
      other,
      (c.passed.invariant text).0 (subst (P text) (sym c.in-Some.ensures)
          (field_has found f rest text named one)),
      (c.passed.invariant other).0 (subst (P other) (sym c.in-Some.ensures)
          (field_has found f rest other named more)),
      differ,
    )

pub passed-preserved-in-Ok : goal.passed-preserved-in-Ok
passed-preserved-in-Ok g c =
    let found = c.passed.one in
    λ text.
    let P : List Pair → Type 0 =
    λ l. (IsThe found text ⊎ HasLength text l) ↔ HasLength text (g.F.Fields.pairs c.args.fields) in
    both_ways (field_more found c.in-Ok.text (pair c.in-Some.field)
    (g.F.Fields.pairs c.next.new.self) text
    (c.if-eq_ignore_ascii_case.ensures.test.0 refl
    ∙ ap (λ l. map to_ascii_lowercase l) c.as_slice.ensures) (c.in-Ok.ensures.one text))
    (subst P c.in-Some.ensures (c.passed.invariant text))

pub passed-preserved : goal.passed-preserved
passed-preserved g c =
    let found = c.passed.one in
    λ text.
    let P : List Pair → Type 0 =
    λ l. (IsThe found text ⊎ HasLength text l) ↔ HasLength text (g.F.Fields.pairs c.args.fields) in
    both_ways (other_more found (pair c.in-Some.field) (g.F.Fields.pairs c.next.new.self) text
    (λ is. true_is_false (sym (c.if-eq_ignore_ascii_case.ensures.test.1
    (is ∙ sym (ap (λ l. map to_ascii_lowercase l) c.as_slice.ensures))))))
    (subst P c.in-Some.ensures (c.passed.invariant text))

pub returns-clause-one : goal.returns-clause-one
returns-clause-one g c = λ text.
    let P : List Pair → Type 0 = λ l. (IsThe c.passed.one text ⊎ HasLength text l)
    ↔ HasLength text (g.F.Fields.pairs c.args.fields) in
    let is = subst P c.in_default.ensures (c.passed.invariant text) in
    ((λ h. elim (is.1 h) [ inl x ↦ x | inr x ↦ absurd x ]), (λ x. is.0 (inl x)))
