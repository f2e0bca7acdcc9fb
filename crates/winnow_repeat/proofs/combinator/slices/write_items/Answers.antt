use Rattle.std.proofs.Common.{rules, arith}
use Rattle.winnow_core.specs.Ends.{fewer_tokens, same_units}
use Rattle.winnow_repeat.specs.Called.{item_called, item_failed, item_stuck}
use Rattle.winnow_repeat.specs.Loops.{reached_none}
use Rattle.winnow_repeat.proofs.IntoSliceExactLemmas.{counted_read, failed_read, full_read}
use Rattle.winnow_repeat.proofs.IntoSliceExactLemmas.{stuck_read}
use Rattle.winnow_repeat.proofs.SliceLemmas.{counted_ran, failed_ran, full_ran, stored_more}
use Rattle.winnow_repeat.proofs.SliceLemmas.{stored_none, stored_ran, stuck_ran, too_many_by_kind}
use Rattle.winnow_repeat.proofs.SliceLemmas.{within_slice}
use Rattle.winnow_repeat.specs.IntoSlice.{TooManyKind}
use Rattle.winnow_repeat.proofs.combinator.slices.write_items.Goals as goal

pub items-init : goal.items-init
items-init g c = record {
  reached = reached_none g.I.Stream.reading _ _ _ _ _;
  stored = stored_none _ _ _ _;
  callable = c.requires;
}

-- an item that consumes nothing
pub returns-then-eof_offset-left-clause-ran : goal.returns-then-eof_offset-left-clause-ran
returns-then-eof_offset-left-clause-ran g c =
    let same = same_units g.I.Stream.reading _ _ c.in-Ok.ensures.ran.0 (omega arith) in
    stuck_ran g.I.Stream.reading g.P.Parser.does g.E.HasKind.form
    (TooManyKind g.E.FromExternalError.external_gives)
    (g.P.Parser.state c.args.parser.now, c.args.slice.now) _ _ _ _ _ c.items.invariant.reached _ _
    (item_stuck g.I.Stream.reading g.P.Parser.does g.E.HasKind.form _ _ _ _ _
    c.in-Ok.ensures.ran same)
    _ c.assert.ensures

pub returns-then-eof_offset-left-clause-reads : goal.returns-then-eof_offset-left-clause-reads
returns-then-eof_offset-left-clause-reads g c is soft consumes whole =
    let same = same_units g.I.Stream.reading _ _ c.in-Ok.ensures.ran.0 (omega arith) in
    absurd (stuck_read g.I.Stream.reading g.E.HasKind.form
    (g.met.P.Parser.lawful.claimed (g.P.Parser.state c.args.parser.now)) is soft consumes
    (TooManyKind g.E.FromExternalError.external_gives) whole c.items.invariant.stored _
    c.in-Ok.output _ c.in-Ok.ensures.ran same)

-- no element for its output
pub returns-then-count-slice-clause-ran : goal.returns-then-count-slice-clause-ran
returns-then-count-slice-clause-ran g c =
    let fewer = fewer_tokens g.I.Stream.reading _ _ c.in-Ok.ensures.ran.0
    (λ e. absurd (omega (arith, e))) in
    let given = c.from_external_error.ensures.given in
    full_ran g.I.Stream.reading g.P.Parser.does g.E.HasKind.form
    (TooManyKind g.E.FromExternalError.external_gives)
    (g.P.Parser.state c.args.parser.now, c.args.slice.now) _ _ _ _ _ c.items.invariant.reached _ _
    c.in-Ok.output
    (item_called g.I.Stream.reading g.P.Parser.does g.E.HasKind.form _ _ _ _ _
    c.in-Ok.ensures.ran fewer)
    (omega arith) _ (too_many_by_kind g.E.FromExternalError.external_gives _ _ given) given _
    (search rules depth 1)

pub returns-then-count-slice-clause-reads : goal.returns-then-count-slice-clause-reads
returns-then-count-slice-clause-reads g c is soft consumes whole =
    full_read g.I.Stream.reading g.E.HasKind.form
    (g.met.P.Parser.lawful.claimed (g.P.Parser.state c.args.parser.now)) is soft consumes
    (TooManyKind g.E.FromExternalError.external_gives) whole c.items.invariant.stored _
    c.in-Ok.output (g.I.Stream.view c.parse_next.new.input) c.in-Ok.ensures.ran (omega arith) _
    c.from_external_error.ensures.given (g.I.Stream.view c.reset.new.self) (search rules depth 1)

-- an item that backtracks
pub returns-then-is_backtrack-clause-ran : goal.returns-then-is_backtrack-clause-ran
returns-then-is_backtrack-clause-ran g c =
    counted_ran g.I.Stream.reading g.P.Parser.does g.E.HasKind.form
    (TooManyKind g.E.FromExternalError.external_gives)
    (g.P.Parser.state c.args.parser.now, c.args.slice.now) _ _ _ _ _ c.items.invariant.reached _ _ _
    (search rules depth 1)
    (item_failed g.I.Stream.reading g.P.Parser.does g.E.HasKind.form _ _
    (g.P.Parser.state c.parse_next.new.self) _ (g.E.HasKind.kind c.in-Err.error)
    c.in-Err.ensures.ran)
    _ (search rules depth 1)

pub returns-then-is_backtrack-clause-reads : goal.returns-then-is_backtrack-clause-reads
returns-then-is_backtrack-clause-reads g c is soft consumes whole =
    counted_read g.I.Stream.reading g.E.HasKind.form
    (g.met.P.Parser.lawful.claimed (g.P.Parser.state c.args.parser.now)) is soft consumes
    (TooManyKind g.E.FromExternalError.external_gives) whole c.items.invariant.stored _
    (g.E.HasKind.kind c.in-Err.error) (search rules depth 1)
    (g.I.Stream.view c.parse_next.new.input) c.in-Err.ensures.ran
    (g.I.Stream.view c.reset-then-is_backtrack.new.self) (search rules depth 1)

-- one that fails by another kind
pub returns-in-Err-clause-ran : goal.returns-in-Err-clause-ran
returns-in-Err-clause-ran g c =
    failed_ran g.I.Stream.reading g.P.Parser.does g.E.HasKind.form
    (TooManyKind g.E.FromExternalError.external_gives)
    (g.P.Parser.state c.args.parser.now, c.args.slice.now) _ _ _ _ _ c.items.invariant.reached _ _ _
    (λ e. search rules depth 1)
    (item_failed g.I.Stream.reading g.P.Parser.does g.E.HasKind.form _ _
    (g.P.Parser.state c.parse_next.new.self) _ (g.E.HasKind.kind c.in-Err.error)
    c.in-Err.ensures.ran)

pub returns-in-Err-clause-reads : goal.returns-in-Err-clause-reads
returns-in-Err-clause-reads g c is soft consumes whole =
    failed_read g.I.Stream.reading g.E.HasKind.form
    (g.met.P.Parser.lawful.claimed (g.P.Parser.state c.args.parser.now)) is soft consumes
    (TooManyKind g.E.FromExternalError.external_gives) whole c.items.invariant.stored _
    (g.E.HasKind.kind c.in-Err.error) (λ e. search rules depth 1) _ c.in-Err.ensures.ran

pub items-preserved : goal.items-preserved
items-preserved g c =
    let fewer = fewer_tokens g.I.Stream.reading _ _ c.in-Ok.ensures.ran.0
    (λ e. absurd (omega (arith, e))) in
    let item = item_called g.I.Stream.reading g.P.Parser.does g.E.HasKind.form _ _ _ _ _
    c.in-Ok.ensures.ran fewer in
    let p = c.items.invariant.stored in record {
      reached = stored_ran g.I.Stream.reading g.P.Parser.does g.E.HasKind.form
          (TooManyKind g.E.FromExternalError.external_gives)
          (g.P.Parser.state c.args.parser.now, c.args.slice.now) _ _ _ _ _
          c.items.invariant.reached _ _ c.in-Ok.output item
          (omega (arith, p.counted, within_slice p.written));
      stored = stored_more _ _ _ _ _ _ _ _ p c.in-Ok.output _ _
          (omega (arith, p.counted, within_slice p.written)) c.in-Ok.ensures.ran fewer;
      callable = c.in-Ok.ensures.again;
    }
