use Rattle.std.proofs.Common.{rules, arith, refl, sym, ◌∙◌}
use Rattle.stream_errors.specs.Form.{answer_by}
use Rattle.winnow_core.specs.Ends.{fewer_tokens, same_units, units_fall}
use Rattle.winnow_escapes.specs.Escaped.{side}
use Rattle.winnow_escapes.proofs.EscapesLemmas.{leads_here, no_turn, nothing_left, part_ends}
use Rattle.winnow_escapes.proofs.EscapesLemmas.{something_left, turn_fails, turn_leads, turn_stays}
use Rattle.winnow_escapes.proofs.EscapesLemmas.{turn_wants, whole_ends}
use Rattle.winnow_escapes.proofs.ascii.turns.read_turns.Goals as goal

pub turns-init : goal.turns-init
turns-init g c =
    (leads_here _ _ _ _ _ _ _, c.requires.normal, c.requires.control, c.requires.escape)

pub try_turn-requires-clause-left : goal.try_turn-requires-clause-left
try_turn-requires-clause-left g c =
    something_left g.I.Stream.reading _ _ c.eof_offset-left.ensures c.if-left-eq0.false

pub turns-smaller : goal.turns-smaller
turns-smaller g c =
    units_fall g.I.Stream.reading _ _ c.in_ok-turn.ensures.ran.0 (λ e. absurd (omega (arith, e)))

pub returns-then-is_partial-clause-ran : goal.returns-then-is_partial-clause-ran
returns-then-is_partial-clause-ran g c =
    let none = nothing_left g.I.Stream.reading _ _ c.eof_offset-left.ensures c.if-left-eq0.true in
    part_ends c.turns.invariant.0 _ (search rules depth 1) none
    (sym c.is_partial.ensures ∙ c.if-is_partial.true)

pub returns-then-left-eq0-clause-ran : goal.returns-then-left-eq0-clause-ran
returns-then-left-eq0-clause-ran g c =
    let none = nothing_left g.I.Stream.reading _ _ c.eof_offset-left.ensures c.if-left-eq0.true in
    whole_ends c.turns.invariant.0 none (sym c.is_partial.ensures ∙ c.if-is_partial.false)

pub returns-in_err-turn-clause-ran : goal.returns-in_err-turn-clause-ran
returns-in_err-turn-clause-ran g c =
    let some =
    something_left g.I.Stream.reading _ _ c.eof_offset-left.ensures c.if-left-eq0.false in
    turn_fails c.turns.invariant.0 some _ _ (g.E.HasKind.kind c.in_err-turn.field-0.0)
    c.in_err-turn.ensures.ran (answer_by g.E.HasKind.kind c.from_residual.result)
    (search rules depth 1)

pub returns-then-eof_offset-left-clause-ran : goal.returns-then-eof_offset-left-clause-ran
returns-then-eof_offset-left-clause-ran g c =
    let some =
    something_left g.I.Stream.reading _ _ c.eof_offset-left.ensures c.if-left-eq0.false in
    let ran = rw c.in-Some.is at c.in_ok-turn.ensures.ran in
    turn_stays c.turns.invariant.0 some _ _ (side c.in-Some.turn) ran _ (search rules depth 1)
    (same_units g.I.Stream.reading _ _ ran.0 (omega arith))

pub turns-preserved : goal.turns-preserved
turns-preserved g c =
    let some =
    something_left g.I.Stream.reading _ _ c.eof_offset-left.ensures c.if-left-eq0.false in
    let ran = rw c.in-Some.is at c.in_ok-turn.ensures.ran in
    let fewer = fewer_tokens g.I.Stream.reading _ _ ran.0 (λ e. absurd (omega (arith, e))) in
    let again = c.in_ok-turn.ensures.again in (
      turn_leads c.turns.invariant.0 some _ _ (side c.in-Some.turn) ran fewer _ _
          (search rules depth 1, refl),
      again.0,
      again.1,
      again.2,
    )

pub returns-in-Err-clause-ran : goal.returns-in-Err-clause-ran
returns-in-Err-clause-ran g c =
    let some =
    something_left g.I.Stream.reading _ _ c.eof_offset-left.ensures c.if-left-eq0.false in
    let ran = rw c.in-Some.is at c.in_ok-turn.ensures.ran in
    let fewer = fewer_tokens g.I.Stream.reading _ _ ran.0 (λ e. absurd (omega (arith, e))) in
    turn_wants c.turns.invariant.0 some _ _ (side c.in-Some.turn) ran fewer _ (search rules depth 1)
    (search rules depth 1)

pub returns-in-None-clause-ran : goal.returns-in-None-clause-ran
returns-in-None-clause-ran g c =
    let some =
    something_left g.I.Stream.reading _ _ c.eof_offset-left.ensures c.if-left-eq0.false in
    no_turn c.turns.invariant.0 some _ _ (rw c.in-None.is at c.in_ok-turn.ensures.ran)
