use Rattle.std.proofs.Common.{◌≡◌, rules, refl}
use Rattle.parser_definitions.specs.Outputs.{ShowsTaken}
use Rattle.winnow_core.specs.Called.{output_ran}
use Rattle.winnow_core.proofs.combinator.impls.with_taken.WithTakenParserTuple2Slice.parse_next.Goals as goal

pub returns-clause-ran : goal.returns-clause-ran
returns-clause-ran g c =
    output_ran g.I.Stream.reading
    (λ w o end u. (u.0 ≡ o) × ShowsTaken g.I.Stream.reading w end u.1) g.F.Parser.does
    g.E.HasKind.form _ _ _ _ _ c.in_ok-output.output _ c.in_ok-output.ensures.ran
    (refl, search rules depth 1) (search rules depth 1)
