use Rattle.std.proofs.Common.{take, drop, sym, refl, inl}
use Rattle.std.proofs.lemmas.List.{take-append-drop, length-take-le}
use Rattle.streams.specs.Input.{takes_end}
use Rattle.winnow_core.specs.Leaves.{passed_of}
use Rattle.winnow_token.proofs.token.impls.take.TakeParserSlice.parse_next.Goals as goal

pub next_slice-requires : goal.next_slice-requires
next_slice-requires g c =
    let tokens = (g.I.Stream.view c.args.input.now).left.tokens in
    let n = c.args.self.now.count in
    (take n tokens, drop n tokens, sym (take-append-drop n tokens), c.in-Ok.ensures.1)

pub returns-in-Ok-clause-ran : goal.returns-in-Ok-clause-ran
returns-in-Ok-clause-ran g c =
    let tokens = (g.I.Stream.view c.args.input.now).left.tokens in
    let n = c.args.self.now.count in
    let taken = c.next_slice.ensures.cuts (take n tokens) (drop n tokens)
    (sym (take-append-drop n tokens)) c.in-Ok.ensures.1 in
    let end = takes_end taken in (
      end,
      end.cut,
      end.ends.possible,
      inl (
        c.next_slice.result,
        _,
        (
          take n tokens,
          length-take-le n tokens c.in-Ok.ensures.0,
          taken.shown,
          passed_of taken.passed,
        ),
        refl,
      ),
    )
