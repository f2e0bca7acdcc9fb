use Rattle.std.proofs.Common.{rules, Err, refl, inl, inr}
use Rattle.std.specs.Fn.{CalledAt}
use Rattle.parser_definitions.specs.Verify.{finds, gives_or_not}
use Rattle.streams.specs.Kind.{backtrack}
use Rattle.winnow_core.specs.Called.{reset_ran, settled_ran}
use Rattle.winnow_core.proofs.combinator.impls.verify.VerifyParser.parse_next.Goals as goal

pub returns-then-filter-clause-ran : goal.returns-then-filter-clause-ran
returns-then-filter-clause-ran g c =
    settled_ran g.I.Stream.reading (gives_or_not (finds (CalledAt g.G.FnMut))) g.F.Parser.does
    g.E.HasKind.form _ _ _ _
    c.in_ok-output.output c.in_ok-output.ensures.ran c.in_ok-output.output
    (inl (
      c.in_ok-output.output,
      _,
      (record { shown = _; shows = refl; called = c.if-filter.ensures }, refl),
      refl,
    ))

pub returns-clause-ran : goal.returns-clause-ran
returns-clause-ran g c =
    reset_ran g.I.Stream.reading (gives_or_not (finds (CalledAt g.G.FnMut))) g.F.Parser.does
    g.E.HasKind.form _ _ _ _
    c.in_ok-output.output c.in_ok-output.ensures.ran backtrack
    (Err (g.E.HasKind.kind c.from_input.result)) _
    (inr (_, record { shown = _; shows = refl; called = c.if-filter.ensures }, refl))
    (search rules depth 1) (search rules depth 1)
