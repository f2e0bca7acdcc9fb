use Rattle.stream_sets.specs.Range.{bounds_of}
use Rattle.parser_definitions.specs.Outcome.{setting_of}
use Rattle.format_resp.proofs.Found.{line_before}
use Rattle.format_resp.proofs.PieceResults.{line_taken, must_ask}
use Rattle.format_resp.proofs.pieces.line_up_to.Goals as goal

pub read_cut-requires-clause-callable : goal.read_cut-requires-clause-callable
read_cut-requires-clause-callable g c =
    (rw (c.terminated.ensures.parser, c.take_till.ensures.set) c.requires.callable, tt)

pub read_cut-requires-clause-premise : goal.read_cut-requires-clause-premise
read_cut-requires-clause-premise g c = (
  (
    c.requires.once _,
    rw (c.terminated.ensures.parser, c.take_till.ensures.occurrences) tt,
  ),
  c.requires.spells,
)

pub returns : goal.returns
returns g c =
    must_ask (rw (
      c.terminated.ensures.parser,
      c.take_till.ensures.occurrences,
      c.take_till.ensures.set,
    )) c.read_cut.ensures.reads c.read_cut.ensures.tells
    (λ o e. line_taken g.I.Stream.reading g.I.Compare.spells g.I.Stream.seen_as
    g.S.ContainsToken.tells (λ x. x.1) (λ x. bounds_of x.0)
    (setting_of g.E.HasKind.form (g.I.Stream.view c.args.input.now))
    (rw e at c.read_cut.ensures.ran).3)
    (line_before g.I.Stream.reading g.I.Compare.spells g.I.Stream.seen_as
    g.S.ContainsToken.tells (λ x. x.1) (λ x. bounds_of x.0) _ _ _
    (rw (c.terminated.ensures.parser, c.take_till.ensures.occurrences) tt)
    c.requires.some)
