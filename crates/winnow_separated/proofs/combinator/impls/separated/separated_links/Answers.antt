use Rattle.std.proofs.Common.{rules, refl, ap, Err, arith, ◌≡◌, ◌<◌, ◌+◌}
use Rattle.streams.specs.Kind.{backtrack}
use Rattle.winnow_repeat.specs.Room.{no_room, room_behind_more, room_behind_none, some_room}
use Rattle.winnow_separated.proofs.LinkLemmas.{only_error, only_none, only_some}
use Rattle.winnow_repeat.specs.Called.{collected_more, collected_none, enough_ran}
use Rattle.winnow_repeat.specs.Called.{failed_ran, full_ran, stuck_ran, wanting_ran}
use Rattle.winnow_separated.proofs.combinator.impls.separated.separated_links.Goals as goal
use Rattle.winnow_separated.proofs.combinator.impls.separated.separated_links.Goals.{
  else-missing-eq0-via-then-missing-eq0+else-is_backtrack,
  else-missing-eq0-via-else-missing-eq0,
}

pub links-init : goal.links-init
links-init g c = (
  0,
  λ r. collected_none,
  room_behind_none _ _,
  c.requires.parser,
  c.requires.separator,
)

pub returns-then-eq-clause-ran : goal.returns-then-eq-clause-ran
returns-then-eq-clause-ran g c =
    let inv = c.links.invariant in
    let full = no_room _ _ _ _ _ inv.2 (search rules depth 1) in
    λ r. full_ran (inv.1 r) full

pub returns-in-Err-accumulate-clause-ran : goal.returns-in-Err-accumulate-clause-ran
returns-in-Err-accumulate-clause-ran g c =
    let inv = c.links.invariant in
    let below = some_room _ _ _ _ _ inv.2 (λ e. search rules depth 1) in
    let element = only_some g.P.Parser.does g.S.Parser.does g.I.Stream.reading g.E.HasKind.form
    _ _ _ _ _ _ c.in-Ok-Some.field-0-is c.in-Ok-Some.ensures.ran in
    λ r. wanting_ran (inv.1 r) below _ _ _ element (search rules depth 1) _ c.no_memory.ensures

pub returns-in-Ok-None-clause-ran : goal.returns-in-Ok-None-clause-ran
returns-in-Ok-None-clause-ran g c =
    let inv = c.links.invariant in
    let below = some_room _ _ _ _ _ inv.2 (λ e. search rules depth 1) in
    let element = only_none g.P.Parser.does g.S.Parser.does g.I.Stream.reading g.E.HasKind.form
    _ _ _ _ _ c.in-Ok-None.field-0-is c.in-Ok-None.ensures.ran in
    λ r. stuck_ran (inv.1 r) below _ _ element _ c.assert.ensures

pub returns-then-is_backtrack-clause-ran : goal.returns-then-is_backtrack-clause-ran
returns-then-is_backtrack-clause-ran g c =
    let inv = c.links.invariant in
    let below = some_room _ _ _ _ _ inv.2 (λ e. search rules depth 1) in
    let element = only_error g.P.Parser.does g.S.Parser.does g.I.Stream.reading g.E.HasKind.form
    _ _
    (g.P.Parser.state c.run.new.self.parser, g.S.Parser.state c.run.new.self.separator) _
    (g.E.HasKind.kind c.in-Err.error) c.in-Err.ensures.ran in
    λ r. enough_ran (inv.1 r) below _ _ (omega (arith, inv.2.still_missing)) _
    (search rules depth 1) element _ (search rules depth 1)

pub returns-in-Err-clause-ran : goal.returns-in-Err-clause-ran
returns-in-Err-clause-ran g c =
    let inv = c.links.invariant in
    let below = some_room _ _ _ _ _ inv.2 (λ e. search rules depth 1) in
    let element = only_error g.P.Parser.does g.S.Parser.does g.I.Stream.reading g.E.HasKind.form
    _ _
    (g.P.Parser.state c.run.new.self.parser, g.S.Parser.state c.run.new.self.separator) _
    (g.E.HasKind.kind c.in-Err.error) c.in-Err.ensures.ran in
    λ r. failed_ran (inv.1 r) below _ _ _ _ (ap Err c.append_position.ensures) few element
  where
    few : g.E.HasKind.kind c.in-Err.error ≡ backtrack → c.links.invariant.0 < c.args.missing
    few e = elim c.else-missing-eq0.branch [
      | else-missing-eq0-via-then-missing-eq0+else-is_backtrack w ↦ search rules depth 1
      | else-missing-eq0-via-else-missing-eq0 w ↦ omega (arith, c.links.invariant.2.still_missing)
    ]

pub links-preserved : goal.links-preserved
links-preserved g c =
    let inv = c.links.invariant in
    let below = some_room _ _ _ _ _ inv.2 (λ e. search rules depth 1) in
    let element = only_some g.P.Parser.does g.S.Parser.does g.I.Stream.reading g.E.HasKind.form
    _ _ _ _ _ _ c.in-Ok-Some.field-0-is c.in-Ok-Some.ensures.ran in (
      inv.0 + 1,
      λ r. collected_more (inv.1 r) below _ _ _ element _ _ (search rules depth 1, refl),
      room_behind_more _ _ _ _ _ _ _ _ inv.2 (λ e. search rules depth 1)
          c.saturating_sub-missing.ensures (search rules depth 1) refl,
      c.in-Ok-Some.ensures.again.0,
      c.in-Ok-Some.ensures.again.1,
    )
