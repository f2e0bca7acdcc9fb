use Rattle.parser_definitions.specs.Bounded.{Bounded, capacity_of}
use Rattle.parser_definitions.specs.Folding.{Started, gathering}
use Rattle.parser_definitions.specs.Left.{left_of}
use Rattle.parser_definitions.specs.Outcome.{outcome_of, setting_of}
use Rattle.parser_definitions.specs.Separated.{Elements}
use Rattle.parser_definitions.specs.Threes.{one_of, pair_of, with_one, with_pair}
use Rattle.std.proofs.Common.{rules, Option, ℕ, refl, subst, inl, inr}
use Rattle.stream_errors.specs.Form.{answer_by}
use Rattle.stream_sets.specs.Range.{from_to}
use Rattle.winnow_separated.proofs.combinator.impls.separated.SeparatedParser.parse_next.Goals as goal

pub returns-in-Ok-clause-ran : goal.returns-in-Ok-clause-ran
returns-in-Ok-clause-ran g c =
    let into = gathering g.C.Accumulate.accumulator in
    let least = c.args.self.now.occurrences.start_inclusive in
    let P : Option ℕ → Type 0 =
    λ greatest. Bounded (from_to least greatest) (Started into (capacity_of least greatest)
    (Elements one_of with_one pair_of with_pair into g.P.Parser.does g.S.Parser.does
    (from_to least greatest))) (setting_of g.E.HasKind.form (g.I.Stream.view c.args.input.now)) (
      g.P.Parser.state c.args.self.now.link.parser,
      g.S.Parser.state c.args.self.now.link.separator,
      c.args.self.now.occurrences,
    )
    (left_of (g.I.Stream.view c.args.input.now))
    (outcome_of (answer_by g.E.HasKind.kind c.separated_elements.result) (
      (
        g.P.Parser.state c.separated_elements.new.link.parser,
        g.S.Parser.state c.separated_elements.new.link.separator,
        c.args.self.now.occurrences,
      ),
      left_of (g.I.Stream.view c.separated_elements.new.input),
    )) in
    let ran = c.separated_elements.ensures.ran c.args.self.now.occurrences in (
      ran.0,
      ran.1,
      ran.2,
      subst P c.greatest-greatest.ensures.value
          (inr (search rules depth 1, inl (_, _, (search rules depth 1, refl), ran.3))),
    )
