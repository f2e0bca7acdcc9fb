use Rattle.winnow_core.specs.Ends.{fewer_tokens, same_units}
use Rattle.std.proofs.Common.{rules, arith, refl}
use Rattle.winnow_separated.proofs.LinkLemmas.{element_failed, link_called, separated_nothing}
use Rattle.winnow_separated.proofs.combinator.impls.link.Link.run.Goals as goal

pub returns-then-eof_offset-left-clause-ran : goal.returns-then-eof_offset-left-clause-ran
returns-then-eof_offset-left-clause-ran g c =
    let mark = c.in_ok-separator.ensures.ran in
    separated_nothing g.I.Stream.reading g.P.Parser.does g.S.Parser.does g.E.HasKind.form _ _ _ _
    c.in_ok-separator.separator mark refl
    (same_units g.I.Stream.reading _ _ mark.0 (omega arith))

pub returns-in_err-element-clause-ran : goal.returns-in_err-element-clause-ran
returns-in_err-element-clause-ran g c =
    let mark = c.in_ok-separator.ensures.ran in
    let less = fewer_tokens g.I.Stream.reading _ _ mark.0 (λ e. absurd (omega (arith, e))) in
    element_failed g.I.Stream.reading g.P.Parser.does g.S.Parser.does g.E.HasKind.form _ _ _ _
    c.in_ok-separator.separator _ mark less _ _ (search rules depth 1)
    c.in_err-element.ensures.ran

pub returns-clause-ran : goal.returns-clause-ran
returns-clause-ran g c =
    let mark = c.in_ok-separator.ensures.ran in
    let less = fewer_tokens g.I.Stream.reading _ _ mark.0 (λ e. absurd (omega (arith, e))) in
    link_called g.I.Stream.reading g.P.Parser.does g.S.Parser.does g.E.HasKind.form _ _ _ _
    c.in_ok-separator.separator _ mark less c.in_ok-element.element
    c.in_ok-element.ensures.ran
