use Rattle.std.proofs.Common.{ap, arith, sym, ◌∙◌}
use Rattle.std.proofs.lemmas.Bool.Decides.{nat_tests}
use Rattle.format_http.proofs.BodiesLemmas.Codings.{coded_after, coded_part, empty_part, one_more}
use Rattle.format_http.specs.Bodies.Lists.{quoted_parts_in}
use Rattle.streams.specs.Equal.{true_is_false}
use Rattle.format_http.proofs.bodies.codings.codings_so_far.Goals as goal

pub returns-then-now-clause-followed : goal.returns-then-now-clause-followed
returns-then-now-clause-followed c =
    let e = ap quoted_parts_in c.in-Some.is ∙ c.next_quoted_part.ensures in
    λ none. c.parts.invariant.follows.1
    (rw e (coded_after c.parts.now.chunked c.parts.now.plain _ _ c.element_of-coding.result.now
    c.element_of-coding.ensures
    (λ e. absurd (grind (arith, nat_tests, e, c.if-not-is_empty.true, c.is_empty.ensures)))
    c.if-now.true))

pub parts-preserved-else-now : goal.parts-preserved-else-now
parts-preserved-else-now c =
    let e = ap quoted_parts_in c.in-Some.is ∙ c.next_quoted_part.ensures in
    one_more _ _ _ _ _ _ _ _ _ c.parts.invariant
    (rw e (coded_part c.parts.now.chunked c.parts.now.plain _ _ c.element_of-coding.result.now
    c.element_of-coding.ensures
    (λ e. absurd (grind (arith, nat_tests, e, c.if-not-is_empty.true, c.is_empty.ensures)))
    c.names_chunked.result c.is_chunked.result
    (λ is. true_is_false (sym is ∙ c.if-now.false)) c.names_chunked.ensures
    c.is_chunked.ensures))

pub parts-preserved : goal.parts-preserved
parts-preserved c =
    let e = ap quoted_parts_in c.in-Some.is ∙ c.next_quoted_part.ensures in
    one_more _ _ _ _ _ _ _ _ _ c.parts.invariant
    (rw e (empty_part c.parts.now.chunked c.parts.now.plain _ _ c.element_of-coding.result.now
    c.element_of-coding.ensures
    (grind (arith, nat_tests, c.if-not-is_empty.false, c.is_empty.ensures))))
