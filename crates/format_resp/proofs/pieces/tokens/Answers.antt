use Rattle.grammars.specs.Grammar.{Both, Counted, Literally}
use Rattle.parser_definitions.specs.Inversion.Sequences.{both_ok}
use Rattle.parser_definitions.specs.Inversion.Tokens.{take_count_ok}
use Rattle.parser_definitions.specs.Outcome.{setting_of}
use Rattle.format_resp.proofs.Found.{counted_ended}
use Rattle.format_resp.proofs.PieceResults.{ending_taken, must_ask}
use Rattle.format_resp.proofs.pieces.tokens.Goals as goal

pub returns : goal.returns
unfolding Both Counted Literally
returns g c =
    must_ask (rw (c.terminated.ensures.parser, c.take.ensures)) c.read_cut.ensures.reads
    c.read_cut.ensures.tells
    (λ o e.
    let at = setting_of g.E.HasKind.form (g.I.Stream.view c.args.input.now) in
    let (line, end, a, t, first, last, is) = both_ok (rw e at c.read_cut.ensures.ran).3 in
    let (front, many, shown, passed) = take_count_ok at _ first in (
      line,
      end,
      a.1.tokens,
      (front, many, shown, passed.tokens),
      ending_taken _ _ at last,
      is,
    ))
    (counted_ended g.I.Stream.reading g.I.Compare.spells g.I.Stream.counts_missing _ _ _)
