use Rattle.winnow_core.specs.Ends.{back_ends, fewer_tokens, same_units}
use Rattle.std.proofs.Common.{rules, arith, refl, sym, ap, length, List, ◌∙◌, ◌+◌}
use Rattle.streams.specs.Input.{Input, back_at, is_end_of_trans}
use Rattle.winnow_repeat.specs.Called.{item_called, item_failed, item_stuck}
use Rattle.winnow_repeat.specs.Room.{no_room, room_behind_more, room_behind_none, some_room}
use Rattle.winnow_repeat.proofs.RepeatTillLemmas.{item_fails, item_stays, item_wants, till_failed}
use Rattle.winnow_repeat.proofs.RepeatTillLemmas.{till_ran, turned_more, turned_none}
use Rattle.winnow_repeat.proofs.combinator.impls.repeat_till.turns.Goals as goal

pub turns-init : goal.turns-init
turns-init g c = (
  0,
  λ range. turned_none,
  room_behind_none _ _,
  c.requires.parser,
  c.requires.terminator,
)

pub returns-in-Ok-clause-ran : goal.returns-in-Ok-clause-ran
returns-in-Ok-clause-ran g c range =
    till_ran (c.turns.invariant.1 range) _ c.in-Ok.end _ c.in-Ok.ensures.ran

pub returns-then-eq-clause-ran : goal.returns-then-eq-clause-ran
returns-then-eq-clause-ran g c range =
    till_failed (c.turns.invariant.1 range) _ (g.E.HasKind.kind c.in-Err.error) _
    (elim c.then-eq.branch [
      | goal.then-eq-via-then-eq w ↦ λ is. no_room _ _ _ _ _ c.turns.invariant.2
          (search rules depth 1)
      | goal.then-eq-via-else-eq+then-not-is_backtrack w ↦ λ is. search rules depth 1
    ])
    c.in-Err.ensures.ran

pub returns-in_err-output-clause-ran : goal.returns-in_err-output-clause-ran
returns-in_err-output-clause-ran g c range =
    let inv = c.turns.invariant in
    let below = some_room _ _ _ _ _ inv.2 (λ e. search rules depth 1) in
    let start = c.reset.ensures
    ∙ ap (λ r. back_at r (g.I.Stream.view c.parse_next.new.input)) c.checkpoint-start.ensures in
    let item = item_failed g.I.Stream.reading g.P.Parser.does g.E.HasKind.form _ _
    (g.P.Parser.state c.parse_item.new.parser) _ (g.E.HasKind.kind c.in_err-output.field-0.0)
    c.in_err-output.ensures.ran in
    item_fails (inv.1 range) _ (g.E.HasKind.kind c.in-Err.error) (search rules depth 1) _
    c.in-Err.ensures.ran below _ start _ _ (g.E.HasKind.kind c.in_err-output.field-0.0) item _
    (search rules depth 1)

pub returns-then-eof_offset-left-clause-ran : goal.returns-then-eof_offset-left-clause-ran
returns-then-eof_offset-left-clause-ran g c range =
    let inv = c.turns.invariant in
    let below = some_room _ _ _ _ _ inv.2 (λ e. search rules depth 1) in
    let start = c.reset.ensures
    ∙ ap (λ r. back_at r (g.I.Stream.view c.parse_next.new.input)) c.checkpoint-start.ensures in
    let tokens : Input _ → List _ = λ z. z.left.tokens in
    let whole = ap tokens start in
    let ended = is_end_of_trans c.in_ok-output.ensures.ran.0
    (back_ends g.I.Stream.reading _ _ _ start c.in-Err.ensures.ran.0) in
    let same = same_units g.I.Stream.reading _ _ ended (omega arith) in
    let item = item_stuck g.I.Stream.reading g.P.Parser.does g.E.HasKind.form _ _ _ _ _
    c.in_ok-output.ensures.ran (same ∙ sym whole) in
    item_stays (inv.1 range) _ (g.E.HasKind.kind c.in-Err.error) (search rules depth 1) _
    c.in-Err.ensures.ran below _ start _ _ item _ c.assert.ensures

pub returns-in-Err-accumulate-clause-ran : goal.returns-in-Err-accumulate-clause-ran
returns-in-Err-accumulate-clause-ran g c range =
    let inv = c.turns.invariant in
    let below = some_room _ _ _ _ _ inv.2 (λ e. search rules depth 1) in
    let start = c.reset.ensures
    ∙ ap (λ r. back_at r (g.I.Stream.view c.parse_next.new.input)) c.checkpoint-start.ensures in
    let tokens : Input _ → List _ = λ z. z.left.tokens in
    let whole = ap tokens start in
    let ended = is_end_of_trans c.in_ok-output.ensures.ran.0
    (back_ends g.I.Stream.reading _ _ _ start c.in-Err.ensures.ran.0) in
    let fewer = fewer_tokens g.I.Stream.reading _ _ ended (λ e. absurd (omega (arith, e))) in
    let item = item_called g.I.Stream.reading g.P.Parser.does g.E.HasKind.form _ _ _ _ _
    c.in_ok-output.ensures.ran (omega (arith, fewer, ap length whole)) in
    item_wants (inv.1 range) _ (g.E.HasKind.kind c.in-Err.error) (search rules depth 1) _
    c.in-Err.ensures.ran below _ start _ _ _ item (search rules depth 1) _ c.no_memory.ensures

pub turns-preserved : goal.turns-preserved
turns-preserved g c =
    let inv = c.turns.invariant in
    let below = some_room _ _ _ _ _ inv.2 (λ e. search rules depth 1) in
    let start = c.reset.ensures
    ∙ ap (λ r. back_at r (g.I.Stream.view c.parse_next.new.input)) c.checkpoint-start.ensures in
    let tokens : Input _ → List _ = λ z. z.left.tokens in
    let whole = ap tokens start in
    let ended = is_end_of_trans c.in_ok-output.ensures.ran.0
    (back_ends g.I.Stream.reading _ _ _ start c.in-Err.ensures.ran.0) in
    let fewer = fewer_tokens g.I.Stream.reading _ _ ended (λ e. absurd (omega (arith, e))) in
    let item = item_called g.I.Stream.reading g.P.Parser.does g.E.HasKind.form _ _ _ _ _
    c.in_ok-output.ensures.ran (omega (arith, fewer, ap length whole)) in (
      inv.0 + 1,
      λ range. turned_more (inv.1 range) _ (g.E.HasKind.kind c.in-Err.error)
          (search rules depth 1) _ c.in-Err.ensures.ran below _ start _ _ _ item _ _
          (search rules depth 1, refl),
      room_behind_more _ _ _ _ _ _ _ _ inv.2 (λ e. search rules depth 1) (omega arith)
          (search rules depth 1) refl,
      c.in_ok-output.ensures.again,
      c.in-Err.ensures.again,
    )
