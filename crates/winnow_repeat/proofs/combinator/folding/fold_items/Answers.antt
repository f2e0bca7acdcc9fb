use Rattle.winnow_core.specs.Ends.{fewer_tokens, same_units, units_fall}
use Rattle.std.proofs.Common.{rules, arith, refl, ap, Err, ◌≡◌, ◌<◌, ◌+◌}
use Rattle.streams.specs.Kind.{backtrack}
use Rattle.winnow_repeat.specs.Called.{collected_more, collected_none, enough_ran, failed_ran}
use Rattle.winnow_repeat.specs.Called.{full_ran, item_called, item_failed, item_stuck, refused_ran}
use Rattle.winnow_repeat.specs.Called.{stuck_ran}
use Rattle.winnow_repeat.specs.Room.{no_room, room_behind_more, room_behind_none, some_room}
use Rattle.winnow_repeat.proofs.FoldLemmas.{refused_in}
use Rattle.winnow_repeat.proofs.combinator.folding.fold_items.Goals as goal
use Rattle.winnow_repeat.proofs.combinator.folding.fold_items.Goals.{
  else-missing-eq0-via-then-missing-eq0+else-is_backtrack,
  else-missing-eq0-via-else-missing-eq0,
}

pub items-init : goal.items-init
items-init g c =
    (0, collected_none, room_behind_none _ _, c.requires.parser, c.requires.op)

pub returns-then-eq-clause-ran : goal.returns-then-eq-clause-ran
returns-then-eq-clause-ran g c =
    let inv = c.items.invariant in
    full_ran inv.1 (no_room _ _ _ _ _ inv.2 (search rules depth 1))

pub returns-then-eof_offset-left-clause-ran : goal.returns-then-eof_offset-left-clause-ran
returns-then-eof_offset-left-clause-ran g c =
    let inv = c.items.invariant in
    let below = some_room _ _ _ _ _ inv.2 (λ e. search rules depth 1) in
    let same = same_units g.I.Stream.reading _ _ c.in-Ok.ensures.ran.0 (omega arith) in
    let item = item_stuck g.I.Stream.reading g.P.Parser.does g.E.HasKind.form _ _ _ _ _
    c.in-Ok.ensures.ran same in
    stuck_ran inv.1 below _ _ item _ c.assert.ensures

pub returns-in-Err-fold-clause-ran : goal.returns-in-Err-fold-clause-ran
returns-in-Err-fold-clause-ran g c =
    let inv = c.items.invariant in
    let below = some_room _ _ _ _ _ inv.2 (λ e. search rules depth 1) in
    let fewer = fewer_tokens g.I.Stream.reading _ _ c.in-Ok.ensures.ran.0
    (λ e. absurd (omega (arith, e))) in
    let item = item_called g.I.Stream.reading g.P.Parser.does g.E.HasKind.form _ _ _ _ _
    c.in-Ok.ensures.ran fewer in
    refused_ran inv.1 below _ _ _ item _ _
    (refused_in g.F.Folding.takes g.F.Folding.rejects g.F.Folding.grows _ _ _ _ _ _
    (c.in-Err-fold.ensures.folded _ c.error.ensures)) _ (search rules depth 1)

pub returns-then-is_backtrack-clause-ran : goal.returns-then-is_backtrack-clause-ran
returns-then-is_backtrack-clause-ran g c =
    let inv = c.items.invariant in
    let below = some_room _ _ _ _ _ inv.2 (λ e. search rules depth 1) in
    let item = item_failed g.I.Stream.reading g.P.Parser.does g.E.HasKind.form _ _
    (g.P.Parser.state c.parse_next.new.self) _ (g.E.HasKind.kind c.in-Err.error)
    c.in-Err.ensures.ran in
    enough_ran inv.1 below _ _ (omega (arith, inv.2.still_missing)) _ (search rules depth 1) item _
    (search rules depth 1)

pub returns-in-Err-clause-ran : goal.returns-in-Err-clause-ran
returns-in-Err-clause-ran g c =
    let inv = c.items.invariant in
    let below = some_room _ _ _ _ _ inv.2 (λ e. search rules depth 1) in
    let item = item_failed g.I.Stream.reading g.P.Parser.does g.E.HasKind.form _ _
    (g.P.Parser.state c.parse_next.new.self) _ (g.E.HasKind.kind c.in-Err.error)
    c.in-Err.ensures.ran in
    failed_ran inv.1 below _ _ _ _ (ap Err c.append_position.ensures) few item
  where
    few : g.E.HasKind.kind c.in-Err.error ≡ backtrack → c.items.invariant.0 < c.args.missing
    few e = elim c.else-missing-eq0.branch [
      | else-missing-eq0-via-then-missing-eq0+else-is_backtrack w ↦ search rules depth 1
      | else-missing-eq0-via-else-missing-eq0 w ↦ omega (arith, c.items.invariant.2.still_missing)
    ]

pub items-smaller : goal.items-smaller
items-smaller g c =
    units_fall g.I.Stream.reading _ _ c.in-Ok.ensures.ran.0 (λ e. absurd (omega (arith, e)))

pub items-preserved : goal.items-preserved
items-preserved g c =
    let inv = c.items.invariant in
    let below = some_room _ _ _ _ _ inv.2 (λ e. search rules depth 1) in
    let fewer = fewer_tokens g.I.Stream.reading _ _ c.in-Ok.ensures.ran.0
    (λ e. absurd (omega (arith, e))) in
    let item = item_called g.I.Stream.reading g.P.Parser.does g.E.HasKind.form _ _ _ _ _
    c.in-Ok.ensures.ran fewer in (
      inv.0 + 1,
      collected_more inv.1 below _ _ _ item _ _ (_, c.in-Ok-fold.ensures.folded, refl),
      room_behind_more _ _ _ _ _ _ _ _ inv.2 (λ e. search rules depth 1)
          c.saturating_sub-missing.ensures (search rules depth 1) refl,
      c.in-Ok.ensures.again,
      c.in-Ok-fold.ensures.again,
    )
