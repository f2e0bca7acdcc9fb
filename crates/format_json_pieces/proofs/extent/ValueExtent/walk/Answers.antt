use Rattle.std.proofs.Common.{◌-◌, ◌∙◌, Err, None, Ok, Some, ap, arith, length, length-append}
use Rattle.std.proofs.Common.{refl, subst}
use Rattle.format_json_pieces.specs.Extents.{ExtentResult}
use Rattle.format_json_pieces.proofs.Extents.Passed.{at_end, at_ended, at_ends, at_never, of_end}
use Rattle.format_json_pieces.proofs.Extents.Passed.{walked_byte, walked_skip}
use Rattle.format_json_pieces.proofs.extent.ValueExtent.walk.Goals as goal

pub returns-in-None-clause-told : goal.returns-in-None-clause-told
returns-in-None-clause-told c was =
    let (long, w) = c.bytes.invariant.1 was in
    subst (λ n. ExtentResult n c.args.bytes.now (Ok None)) long
    (at_end (walked_skip w _ c.skip-rest.ensures) c.in-None.ensures.cases)

pub returns-in-None-clause-kept : goal.returns-in-None-clause-kept
returns-in-None-clause-kept c was more =
    let (long, w) = c.bytes.invariant.1 was in
    of_end (walked_skip w _ c.skip-rest.ensures) c.in-None.ensures.cases _ refl more

pub bytes-preserved : goal.bytes-preserved
bytes-preserved c = (
  omega (
    arith,
    c.bytes.invariant.0,
    ap (λ l. length l) c.skip-rest.ensures.1,
    length-append c.skip-rest.ensures.0 c.skip-rest.result.now,
    ap (λ l. length l) c.in-Some.ensures.cases.0,
  ),
  λ was.
      let (long, w) = c.bytes.invariant.1 was in
      let turn = c.in-Goes.ensures w.few in (
        turn.0 ∙ long,
        walked_byte (walked_skip w _ c.skip-rest.ensures) c.in-Some.ensures.cases.0
            c.turn.new.self _ turn,
      ),
)

pub returns-in-Ended-clause-told : goal.returns-in-Ended-clause-told
returns-in-Ended-clause-told c was =
    let (long, w) = c.bytes.invariant.1 was in
    subst (λ n. ExtentResult n c.args.bytes.now
    (Ok (Some (length c.args.bytes.now - length c.skip-rest.result.now)))) long
    (at_ended (walked_skip w _ c.skip-rest.ensures) c.in-Some.ensures.cases.0 c.turn.new.self
    c.turn.new.brackets (c.in-Ended.ensures w.few) _ refl)

pub returns-in-Ends-clause-told : goal.returns-in-Ends-clause-told
returns-in-Ends-clause-told c was =
    let (long, w) = c.bytes.invariant.1 was in
    subst (λ n. ExtentResult n c.args.bytes.now
    (Ok (Some (length c.args.bytes.now - length c.in-Some.more.now)))) long
    (at_ends (walked_skip w _ c.skip-rest.ensures) c.in-Some.ensures.cases.0 c.turn.new.self
    c.turn.new.brackets (c.in-Ends.ensures w.few) _ refl)

pub returns-in-Never-clause-told : goal.returns-in-Never-clause-told
returns-in-Never-clause-told c was =
    let (long, w) = c.bytes.invariant.1 was in
    subst (λ n. ExtentResult n c.args.bytes.now (Err (record {
      reason = c.in-Never.reason;
      offset = length c.args.bytes.now - length c.skip-rest.result.now;
    }))) long
    (at_never (walked_skip w _ c.skip-rest.ensures) c.in-Some.ensures.cases.0 c.turn.new.self
    c.turn.new.brackets c.in-Never.reason (c.in-Never.ensures w.few) _ refl)
