use Rattle.std.proofs.Common.{rules, refl, inl, inr, arith, sym, ◌∙◌}
use Rattle.streams.specs.Reading.{units-zero}
use Rattle.winnow_core.specs.Ends.{fewer_tokens, same_units}
use Rattle.winnow_core.proofs.ParseIterLemmas.{nothing_to_read, reads_unread, some_to_read}
use Rattle.winnow_core.proofs.ParseIterLemmas.{reached_remains}
use Rattle.winnow_core.proofs.combinator.impls.parse_iter.ParseIter.run.Goals as goal

pub returns-then-left-eq0-clause-ran : goal.returns-then-left-eq0-clause-ran
returns-then-left-eq0-clause-ran g c =
    let on = reads_unread g.I.Stream.view g.I.Stream.seen {unread = c.args.self.now.unread}
    {u = c.in-Some.field-0} (search rules depth 1) in
    let nothing = units-zero g.I.Stream.reading _
    (sym c.eof_offset-left.ensures ∙ c.if-left-eq0.true)
    in
    inr (inr (nothing_to_read on nothing, refl, refl, search rules depth 1))

pub at-requires : goal.at-requires
at-requires g c =
    let on = reads_unread g.I.Stream.view g.I.Stream.seen {unread = c.args.self.now.unread}
    {u = c.in-Some.field-0} (search rules depth 1) in
    reached_remains on c.requires.reached c.parse_next.ensures.ran.0

pub returns-then-eof_offset-left-clause-ran : goal.returns-then-eof_offset-left-clause-ran
returns-then-eof_offset-left-clause-ran g c =
    let same = same_units g.I.Stream.reading _ _ c.in-Ok.ensures.ran.0 (omega arith) in
    let on = reads_unread g.I.Stream.view g.I.Stream.seen {unread = c.args.self.now.unread}
    {u = c.in-Some.field-0} (search rules depth 1) in
    inr (inl (
      g.I.Stream.seen c.in-Some.field-0.start,
      g.I.Stream.view c.in-Some.field-0.input,
      g.I.Stream.view c.parse_next.new.input,
      _,
      c.at.result,
      on,
      some_to_read g.I.Stream.reading _ (λ e. c.if-left-eq0.false (c.eof_offset-left.ensures ∙ e)),
      inr (c.in-Ok.output, c.in-Ok.ensures.ran, same, c.assert-error.ensures),
      c.at.ensures,
      refl,
      search rules depth 1,
    ))

pub at-requires-in-Err : goal.at-requires-in-Err
at-requires-in-Err g c =
    let on = reads_unread g.I.Stream.view g.I.Stream.seen {unread = c.args.self.now.unread}
    {u = c.in-Some.field-0} (search rules depth 1) in
    reached_remains on c.requires.reached c.parse_next.ensures.ran.0

pub returns-in-Err-clause-ran : goal.returns-in-Err-clause-ran
returns-in-Err-clause-ran g c =
    let on = reads_unread g.I.Stream.view g.I.Stream.seen {unread = c.args.self.now.unread}
    {u = c.in-Some.field-0} (search rules depth 1) in
    inr (inl (
      g.I.Stream.seen c.in-Some.field-0.start,
      g.I.Stream.view c.in-Some.field-0.input,
      g.I.Stream.view c.parse_next.new.input,
      _,
      c.at-in-Err.result,
      on,
      some_to_read g.I.Stream.reading _ (λ e. c.if-left-eq0.false (c.eof_offset-left.ensures ∙ e)),
      inl c.in-Err.ensures.ran,
      c.at-in-Err.ensures,
      refl,
      search rules depth 1,
    ))

pub returns-else-eof_offset-left-clause-ran : goal.returns-else-eof_offset-left-clause-ran
returns-else-eof_offset-left-clause-ran g c =
    let on = reads_unread g.I.Stream.view g.I.Stream.seen {unread = c.args.self.now.unread}
    {u = c.in-Some.field-0} (search rules depth 1) in
    let fewer = fewer_tokens g.I.Stream.reading _ _ c.in-Ok.ensures.ran.0
    (λ e. absurd (omega (arith, e))) in
    inl (
      g.I.Stream.seen c.in-Some.field-0.start,
      g.I.Stream.view c.in-Some.field-0.input,
      g.I.Stream.view c.parse_next.new.input,
      c.in-Ok.output,
      on,
      (c.in-Ok.ensures.ran, fewer),
      refl,
      refl,
    )
