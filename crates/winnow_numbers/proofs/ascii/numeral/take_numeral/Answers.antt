use Rattle.std.proofs.Common.{refl, ◌∙◌}
use Rattle.streams.specs.Input.{is_end_of_trans, remains_of_start}
use Rattle.winnow_numbers.proofs.LeftLemmas.{back_to, end_same}
use Rattle.winnow_numbers.proofs.NumeralLemmas.{bounded, front_of, numeral_missing, numeral_taken}
use Rattle.winnow_numbers.proofs.ascii.numeral.take_numeral.Goals as goal

pub offset_from-length-requires : goal.offset_from-length-requires
offset_from-length-requires g c =
    remains_of_start c.checkpoint-start.ensures
    (is_end_of_trans c.in-Ok.ensures.ends c.pass_sign-zero.ensures.ends)

pub next_slice-requires : goal.next_slice-requires
next_slice-requires g c =
    let front = front_of g.I.Stream.seen_as g.I.Token.AsChar.code g.I.Stream.reading
    g.E.HasKind.form c.args.signed c.pass_sign-zero.result (g.I.Stream.view c.args.input.now)
    (g.I.Stream.view c.pass_sign-zero.new.input)
    (g.I.Stream.view c.pass_digits.new.input) c.pass_sign-zero.ensures.ends.cut
    c.pass_sign-zero.ensures.ran c.in-Ok.ensures.ran in
    bounded g.I.Stream.seen_as g.I.Token.AsChar.code g.I.Stream.reading
    (g.I.Stream.view c.args.input.now) (g.I.Stream.view c.pass_digits.new.input) _ front.0 _ _
    c.checkpoint-start.ensures front.1 c.offset_from-length.ensures c.reset.ensures

pub returns-in-Ok : goal.returns-in-Ok
returns-in-Ok g c = record {
  ran =
      numeral_taken g.I.Stream.seen_as g.I.Token.AsChar.code g.I.Stream.reading g.E.HasKind.form
      c.args.signed c.pass_sign-zero.result (g.I.Stream.view c.args.input.now)
      (g.I.Stream.view c.pass_sign-zero.new.input)
      (g.I.Stream.view c.pass_digits.new.input) _ _ _ _ _
      (is_end_of_trans c.in-Ok.ensures.ends c.pass_sign-zero.ensures.ends)
      c.checkpoint-start.ensures c.pass_sign-zero.ensures.ends.cut c.pass_sign-zero.ensures.ran
      c.in-Ok.ensures.ran c.offset_from-length.ensures c.reset.ensures c.next_slice.ensures.cuts;
}

pub returns-then-not-is_backtrack : goal.returns-then-not-is_backtrack
returns-then-not-is_backtrack g c = record {
  ran =
      numeral_missing g.I.Stream.seen_as g.I.Token.AsChar.code g.I.Stream.reading
      g.E.HasKind.form c.args.signed c.pass_sign-zero.result
      (g.I.Stream.view c.args.input.now) (g.I.Stream.view c.pass_sign-zero.new.input)
      (g.I.Stream.view c.pass_digits.new.input) _ _
      (is_end_of_trans c.in-Err.ensures.ends c.pass_sign-zero.ensures.ends)
      c.pass_sign-zero.ensures.ends.cut c.pass_sign-zero.ensures.ran c.in-Err.ensures.ran (
        λ is. absurd (
            let e = c.is_backtrack.ensures.1 is in
            let f = c.if-not-is_backtrack.true in
            cc
            ),
        λ other. refl,
      );
}

pub returns : goal.returns
returns g c = record {
  ran =
      let kind = c.is_backtrack.ensures.0 c.if-not-is_backtrack.false in
      let same = back_to (g.I.Stream.view c.args.input.now)
      (g.I.Stream.view c.pass_digits.new.input) _ _ c.checkpoint-start.ensures
      (c.in-Err.ensures.status ∙ c.pass_sign-zero.ensures.status) c.reset-in-Err.ensures in
      numeral_missing g.I.Stream.seen_as g.I.Token.AsChar.code g.I.Stream.reading
      g.E.HasKind.form c.args.signed c.pass_sign-zero.result
      (g.I.Stream.view c.args.input.now) (g.I.Stream.view c.pass_sign-zero.new.input)
      (g.I.Stream.view c.pass_digits.new.input) _ _
      (end_same g.I.Stream.reading _ _ same) c.pass_sign-zero.ensures.ends.cut
      c.pass_sign-zero.ensures.ran
      c.in-Err.ensures.ran (λ _. same, λ other. absurd (other kind));
}
