use Rattle.parser_definitions.specs.Does.{Ran}
use Rattle.parser_definitions.specs.Folding.{gathering}
use Rattle.parser_definitions.specs.Items.{Items}
use Rattle.parser_definitions.specs.Threes.{pair_of, with_pair}
use Rattle.winnow_repeat.specs.Room.{room_behind_none, some_room}
use Rattle.std.proofs.Common.{rules, Option, ℕ}
use Rattle.stream_errors.specs.Form.{answer_by}
use Rattle.stream_sets.specs.Range.{from_to}
use Rattle.winnow_separated.specs.Separated.{OnlyElements}
use Rattle.winnow_separated.proofs.SeparatedLemmas.{fewer_links, links_follow}
use Rattle.winnow_separated.proofs.combinator.impls.separated.separated_elements.Goals as goal

pub returns-in-Ok-accumulate-clause-ran : goal.returns-in-Ok-accumulate-clause-ran
returns-in-Ok-accumulate-clause-ran g c r =
    let links : ℕ → Option ℕ → Type 0 =
    λ missing room. Ran g.I.Stream.reading
    (Items pair_of with_pair (gathering g.C.Accumulate.accumulator) (from_to missing room)
    (OnlyElements g.P.Parser.does g.S.Parser.does) c.accumulate.new.self) g.E.HasKind.form
    (g.P.Parser.state c.parse_next.new.self, g.S.Parser.state c.args.link.now.separator, r)
    (g.I.Stream.view c.parse_next.new.input) (answer_by g.E.HasKind.kind c.separated_links.result) (
      g.P.Parser.state c.separated_links.new.link.parser,
      g.S.Parser.state c.separated_links.new.link.separator,
      r,
    )
    (g.I.Stream.view c.separated_links.new.input) in
    links_follow g.I.Stream.reading g.C.Accumulate.accumulator g.P.Parser.does g.S.Parser.does
    (from_to c.args.least c.args.greatest) g.E.HasKind.form c.args.all
    (g.P.Parser.state c.args.link.now.parser, g.S.Parser.state c.args.link.now.separator, r) _
    (some_room _ _ _ _ _ (room_behind_none c.args.least c.args.greatest)
    (λ e. search rules depth 1))
    c.in-Ok.output _ _ c.in-Ok.ensures.ran _ (search rules depth 1)
    (answer_by g.E.HasKind.kind c.separated_links.result) _ _
    (fewer_links links _ _ _ _ c.saturating_sub.ensures (search rules depth 1)
    (c.separated_links.ensures.ran r))
