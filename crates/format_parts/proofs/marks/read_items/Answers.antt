use Rattle.std.specs.Prelude.{None}
use Rattle.format_parts.proofs.MarkRuns.{items_ran, items_spared}
use Rattle.format_parts.specs.Words.{pair}
use Rattle.parser_definitions.specs.Both.{BothDo}
use Rattle.parser_definitions.specs.Projects.{Complete}
use Rattle.parser_definitions.specs.Projects.Sequences.{both_claimed}
use Rattle.stream_sets.specs.Accumulator.{list_kept}
use Rattle.stream_sets.specs.declared.range.Range.{Range}
use Rattle.winnow_grammar.specs.Read.{reads_by}
use Rattle.format_parts.proofs.marks.read_items.Goals as goal

pub returns-clause-ran : goal.returns-clause-ran
returns-clause-ran g c =
    let parts = c.delimited.result in
    let mark = g.B.Parser.state in
    let gap = g.G.Parser.state in
    items_ran (
      (mark parts.ignored1.0, gap parts.ignored1.1),
      (
        g.P.Parser.state parts.parser.link.parser,
        (mark parts.parser.link.separator.0, gap parts.parser.link.separator.1),
        parts.parser.occurrences,
      ),
      mark parts.ignored2,
    ) _ c.read.ensures.ran (rw (
      c.delimited.ensures.ignored1,
      c.delimited.ensures.parser,
      c.delimited.ensures.ignored2,
      c.separated-items.ensures.occurrences,
      c.separated-items.ensures.parser,
      c.separated-items.ensures.separator,
    ))

pub returns-clause-reads : goal.returns-clause-reads
returns-clause-reads g c = reads_by c.read.ensures.reads (rw (
  c.delimited.ensures.ignored1,
  c.delimited.ensures.parser,
  c.delimited.ensures.ignored2,
  c.separated-items.ensures.occurrences,
  c.separated-items.ensures.parser,
  c.separated-items.ensures.separator,
))

pub returns-clause-spared : goal.returns-clause-spared
returns-clause-spared g c item opening closing gap none =
    let (opens, opening_premise, opening_backs) = c.requires.opening in
    let (closes, closing_premise, closing_backs) = c.requires.closing in
    let (gaps, gap_premise, gap_backs) = c.requires.gap in
    let (items, item_premise, item_backs) = c.requires.item in
    let claimed = g.met.B.Parser.lawful.claimed in
    let first = both_claimed pair (claimed (g.B.Parser.state c.args.marks.opening))
    (g.met.G.Parser.lawful.claimed (g.G.Parser.state c.args.marks.gap)) in
    let of_item = g.met.P.Parser.lawful.claimed (g.P.Parser.state c.args.item) in
    let last = claimed (g.B.Parser.state c.args.marks.closing) in
    let range : Range = record { start_inclusive = 0; end_inclusive = None } in
    items_spared (BothDo pair g.B.Parser.does g.G.Parser.does) list_kept (λ n never. never) (
      (g.B.Parser.state c.args.marks.opening, g.G.Parser.state c.args.marks.gap),
      (
        g.P.Parser.state c.args.item,
        (g.B.Parser.state c.args.marks.comma, g.G.Parser.state c.args.marks.gap),
        range,
      ),
      g.B.Parser.state c.args.marks.closing,
    ) (λ (at : Complete). first.projects at (opening_premise, gap_premise)) (opening, gap)
    (λ at. of_item.projects at item_premise) item (λ at. last.projects at closing_premise) closing
    g.E.HasKind.form g.E.HasKind.kind _ c.read.result _ _ (returns-clause-ran g c).ran
    (returns-clause-reads g c) none
