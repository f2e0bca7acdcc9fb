use Rattle.std.proofs.Common.{◌≡◌, ap, refl, subst, sym, inl, inr, ℕ, Bool, Err, ◌∙◌}
use Rattle.streams.specs.Equal.{true_is_false}
use Rattle.streams.specs.Input.{Input, back_at, is_end_of_back}
use Rattle.stream_bits.specs.BitInput.{bits_input}
use Rattle.stream_bits.specs.BitReading.{bits_reading}
use Rattle.parser_definitions.specs.BitTake.{BitPatternDoes, must_be}
use Rattle.parser_definitions.specs.Does.{Ran}
use Rattle.parser_definitions.specs.Left.{left_of}
use Rattle.parser_definitions.specs.Outcome.{setting_of}
use Rattle.parser_definitions.specs.Then.Steps.{with_second}
use Rattle.winnow_core.specs.Results.{failed, gave}
use Rattle.winnow_bits.proofs.bits.impls.pattern.PatternParserBits.parse_next.Goals as goal

pub returns-then-eq-clause-ran : goal.returns-then-eq-clause-ran
returns-then-eq-clause-ran g c =
    let is = (g.met.O.BitOutput.same_number c.in-Ok.taken c.args.self.now.value).0
    (sym c.eq.ensures ∙ c.if-eq.true) in
    let (ends, more, can, took) = c.in-Ok.ensures in
    (ends, more, can, (_, took, inl (is, refl)))

pub returns-in-Ok-clause-ran : goal.returns-in-Ok-clause-ran
returns-in-Ok-clause-ran g c =
    let reading = bits_reading g.I.Stream.reading in
    let s : ℕ × ℕ = (g.O.BitOutput.number c.args.self.now.value, c.args.self.now.count) in
    let i = bits_input (g.I.Stream.view c.args.input.now.0) c.args.input.now.1 in
    let m = bits_input (g.I.Stream.view c.take_counted.new.input.0) c.take_counted.new.input.1 in
    let P : Input Bool → Type 0 = λ j.
    Ran reading (BitPatternDoes g.O.BitOutput.number g.O.BitOutput.WIDTH reading)
    g.E.HasKind.form s i (Err (g.E.HasKind.kind c.from_input.result)) s j in
    let other : g.O.BitOutput.number c.in-Ok.taken ≡ s.0 → ⊥ = λ same. true_is_false
    (sym ((g.met.O.BitOutput.same_number c.in-Ok.taken c.args.self.now.value).1 same)
    ∙ sym c.eq.ensures ∙ c.if-eq.false) in
    let (ends, more, can, took) = c.in-Ok.ensures in
    subst P
    (sym (c.reset.ensures ∙ ap (λ x. back_at x m) c.checkpoint-start.ensures)) (
      is_end_of_back refl ends,
      more,
      refl,
      (_, took, inr (other, gave (s, left_of (back_at i.left m)) (ap Err c.from_input.ensures))),
    )

pub returns-clause-ran : goal.returns-clause-ran
returns-clause-ran g c =
    let reading = bits_reading g.I.Stream.reading in
    let s : ℕ × ℕ = (g.O.BitOutput.number c.args.self.now.value, c.args.self.now.count) in
    let i = bits_input (g.I.Stream.view c.args.input.now.0) c.args.input.now.1 in
    let j = bits_input (g.I.Stream.view c.take_counted.new.input.0) c.take_counted.new.input.1 in
    let (ends, more, can, fails) = c.in-Err.ensures in (
      ends,
      more,
      can,
      (
        _,
        fails,
        failed with_second (must_be g.O.BitOutput.number g.O.BitOutput.WIDTH reading)
            (setting_of g.E.HasKind.form i) s (left_of i) (g.E.HasKind.kind c.in-Err.error)
            (left_of j) s.1 s (Err (g.E.HasKind.kind c.in-Err.error)) refl refl,
      ),
    )
