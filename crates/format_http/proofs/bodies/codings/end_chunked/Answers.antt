use Rattle.std.proofs.Common.{ap, refl, subst, sym, ◌∙◌}
use Rattle.std.specs.Char.{to_ascii_lowercase}
use Rattle.std.specs.Prelude.{List, map}
use Rattle.format_http.proofs.BodiesLemmas.Codings.{AreSame, followed_field, no_fields}
use Rattle.format_http.proofs.BodiesLemmas.Codings.{other_field, same_field}
use Rattle.format_http.specs.Heads.Head.{Pair, pair}
use Rattle.streams.specs.Equal.{true_is_false}
use Rattle.format_http.proofs.bodies.codings.end_chunked.Goals as goal

pub returns-in-None-clause-followed : goal.returns-in-None-clause-followed
returns-in-None-clause-followed g c _ =
    let all = g.F.Fields.pairs c.args.fields in
    let P : List Pair → Type 0 = λ l. AreSame c.passed.now.chunked c.passed.now.plain l all in
    followed_field _ _ (pair c.in-Some.field) (g.F.Fields.pairs c.next.new.self) all
    (subst P c.in-Some.ensures c.passed.invariant)
    (c.if-eq_ignore_ascii_case.ensures.test.0 refl
    ∙ ap (λ l. map to_ascii_lowercase l) c.as_slice.ensures) (c.in-None.ensures.followed refl)

pub passed-preserved-in-Some-codings_so_far : goal.passed-preserved-in-Some-codings_so_far
passed-preserved-in-Some-codings_so_far g c =
    let all = g.F.Fields.pairs c.args.fields in
    let P : List Pair → Type 0 = λ l. AreSame c.passed.now.chunked c.passed.now.plain l all in
    let last = c.in-Some-codings_so_far.ensures.last in
    same_field _ _ (pair c.in-Some.field) (g.F.Fields.pairs c.next.new.self) all
    (subst P c.in-Some.ensures c.passed.invariant) _ _
    (c.if-eq_ignore_ascii_case.ensures.test.0 refl
    ∙ ap (λ l. map to_ascii_lowercase l) c.as_slice.ensures) last.0 last.1 last.2

pub passed-preserved : goal.passed-preserved
passed-preserved g c =
    let all = g.F.Fields.pairs c.args.fields in
    let P : List Pair → Type 0 = λ l. AreSame c.passed.now.chunked c.passed.now.plain l all in
    other_field _ _ (pair c.in-Some.field) (g.F.Fields.pairs c.next.new.self) all
    (subst P c.in-Some.ensures c.passed.invariant)
    (λ is. true_is_false (sym (c.if-eq_ignore_ascii_case.ensures.test.1
    (is ∙ sym (ap (λ l. map to_ascii_lowercase l) c.as_slice.ensures)))))

pub returns-clause-last : goal.returns-clause-last
returns-clause-last g c =
    let all = g.F.Fields.pairs c.args.fields in
    let P : List Pair → Type 0 = λ l. AreSame c.passed.now.chunked c.passed.now.plain l all in
    no_fields _ _ all (subst P c.in_default.ensures c.passed.invariant)
