use Rattle.std.proofs.Common.{take, drop, refl, sym, ap, subst, inl, inr, ◌∙◌}
use Rattle.std.proofs.lemmas.List.{take-append-drop, length-take-le}
use Rattle.streams.specs.Input.{is_end_of_refl, passes_end}
use Rattle.stream_errors.specs.Form.{answer_by}
use Rattle.parser_definitions.specs.Does.{Ran}
use Rattle.parser_definitions.specs.Left.{left_of}
use Rattle.parser_definitions.specs.MapErr.{CompleteErrDoes}
use Rattle.parser_definitions.specs.Outcome.{lacks, setting_of}
use Rattle.winnow_core.specs.Leaves.{passed_of, short}
use Rattle.winnow_binary.proofs.LengthAndThenLemmas.{inside, only_first_is}
use Rattle.winnow_binary.proofs.binary.impls.length_and_then.parse_taken.Goals as goal

pub next_slice-taken-requires : goal.next_slice-taken-requires
next_slice-taken-requires g c =
    let tokens = (g.I.Stream.view c.args.input.now).left.tokens in
    let n = c.args.count in
    (take n tokens, drop n tokens, sym (take-append-drop n tokens), c.in-Ok.ensures.1)

pub returns-in-Ok-clause-ran : goal.returns-in-Ok-clause-ran
returns-in-Ok-clause-ran g c =
    let reading = g.I.Stream.reading in
    let form = g.E.HasKind.form in
    let i = g.I.Stream.view c.args.input.now in
    let n = c.args.count in
    let takes = c.next_slice-taken.ensures.cuts (take n i.left.tokens) (drop n i.left.tokens)
    (sym (take-append-drop n i.left.tokens)) c.in-Ok.ensures.1 in
    let end = passes_end takes.passed in
    let end_of = g.I.Stream.view c.parse_complete.new.input in
    let answer = answer_by g.E.HasKind.kind c.parse_complete.result in
    let t = g.P.Parser.state c.parse_complete.new.parser in
    let At : _ → Type 0 = λ x. Ran reading (CompleteErrDoes g.P.Parser.does) form
    (g.P.Parser.state c.args.parser.now) x answer t end_of in
    let ran = subst At (c.complete-state.ensures.complete
    ∙ only_first_is g.met.I.UpdateSlice.one_list takes c.update_slice-only.ensures)
    c.parse_complete.ensures.ran in (
      end,
      end.cut,
      end.ends.possible,
      inl (
        take n i.left.tokens,
        _,
        _,
        length-take-le n i.left.tokens c.in-Ok.ensures.0,
        passed_of takes.passed,
        ran.3,
        inside (left_of (g.I.Stream.view c.next_slice-taken.new.self)) (left_of end_of) answer t,
      ),
    )

pub returns-in-Err-clause-ran : goal.returns-in-Err-clause-ran
returns-in-Err-clause-ran g c =
    let form = g.E.HasKind.form in
    let i = g.I.Stream.view c.args.input.now in
    let s = g.P.Parser.state c.args.parser.now in (
      is_end_of_refl g.I.Stream.reading i,
      refl,
      refl,
      inr (
        c.in-Err.ensures.0,
        short form _ i _ (s, left_of i) c.short.ensures
            ∙ ap (λ need. lacks (setting_of form i) need (s, left_of i)) c.in-Err.ensures.1,
      ),
    )
