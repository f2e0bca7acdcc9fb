use Rattle.std.proofs.Common.{◌≡◌, ◌∙◌, ap, pos}
use Rattle.winnow.specs.Bytes.{bytes_reading}
use Rattle.winnow.specs.Form.{plain}
use Rattle.winnow.specs.Expression.{infix_of, postfix_of}
use Rattle.winnow.specs.Premises.Laws.{fail_stateless}
use Rattle.winnow.specs.Premises.Decided.{stateless_wider}
use Rattle.example_formulas.specs.Sizes.{SizeStates, marks_of, sign_marks, unit_marks}
use Rattle.example_formulas.proofs.Results.{exact_at, same_signs, same_units}
use Rattle.example_formulas.proofs.SameTrees.{clones_equal}
use Rattle.example_formulas.proofs.sizes.read_size.Goals as goal

pub returns-clause-reads : goal.returns-clause-reads
returns-clause-reads g c =
    let parser = c.infix-parser.result in
    let units : marks_of (postfix_of parser) ≡ unit_marks =
    ap marks_of (c.infix-parser.ensures.postfix ∙ c.postfix.ensures.postfix) ∙ c.units.ensures in
    let signs : marks_of (infix_of parser) ≡ sign_marks =
    ap marks_of c.infix-parser.ensures.infixes ∙ c.signs.ensures in
    let states : SizeStates = ((tt, tt), (marks_of (postfix_of parser), marks_of (infix_of parser)))
    in
    let zero : parser.level ≡ pos 0 = c.infix-parser.ensures.level ∙ c.postfix.ensures.level
    ∙ c.expression.ensures.level in
    exact_at
    (c.expression_is_unambiguous.ensures.exact (states.0, states.1, parser.level)
    (record {
      operands = stateless_wider (λ o p like. like)
          (c.deterministic_parts_are_stateless.ensures _ tt
          c.a_number_stays.ensures);
      prefixes = fail_stateless bytes_reading _ plain tt;
      postfixes = stateless_wider (λ o p like. same_units o p
          (clones_equal c.unit_clones_are_equal.ensures o p like))
          (c.deterministic_parts_are_stateless-2.ensures _ (tt, tt)
          (c.marks_stay.ensures _ _ _ _));
      infixes = stateless_wider (λ o p like. same_signs o p
          (clones_equal c.sign_clones_are_equal.ensures o p like))
          (c.deterministic_parts_are_stateless-3.ensures _ (tt, tt)
          (c.marks_stay-2.ensures _ _ _ _));
      neither_moves = λ i j o p t r e. c.a_choice_consumes.ensures _ _
          (c.a_value_consumes.ensures _ _ (c.a_byte_consumes.ensures _))
          (c.a_value_consumes.ensures _ _ (c.a_byte_consumes.ensures _)) i j o t r;
    })
    _ _ _ _ c.parse_next.ensures.ran)
    (ap (λ u. ((tt, tt), (u, marks_of (infix_of parser)))) units
    ∙ ap (λ v. ((tt, tt), (unit_marks, v))) signs)
    zero
