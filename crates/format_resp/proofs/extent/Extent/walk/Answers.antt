use Rattle.std.proofs.Common.{arith}
use Rattle.format_resp.proofs.Passing.{all_passed}
use Rattle.format_resp.proofs.extent.Extent.walk.Goals as goal

pub returns-in-None-2-clause-told : goal.returns-in-None-2-clause-told
returns-in-None-2-clause-told c p =
    (rw c.in-None-2.is at (c.in_ok-pass_data-in-Some.ensures.told (c.parts.invariant.1 p))).1

pub returns-in-None-checked_sub-clause-told : goal.returns-in-None-checked_sub-clause-told
returns-in-None-checked_sub-clause-told c p =
    all_passed c.args.protocol _ _ _ (c.parts.invariant.1 p) c.in-None.is
    (omega (arith, c.in-None-checked_sub.ensures))

pub returns-in-None-3-clause-told : goal.returns-in-None-3-clause-told
returns-in-None-3-clause-told c p = (rw c.in-None-3.is at
    (c.in_ok-pass_line-in-Some-checked_sub.ensures.told (c.parts.invariant.1 p))).1

pub returns-in-None-2-clause-wants : goal.returns-in-None-2-clause-wants
returns-in-None-2-clause-wants c p =
    let (passed, none, wants) =
    rw c.in-None-2.is at (c.in_ok-pass_data-in-Some.ensures.told (c.parts.invariant.1 p)) in
    (c.parts.rest.now, passed, wants)

pub returns-in-None-3-clause-wants : goal.returns-in-None-3-clause-wants
returns-in-None-3-clause-wants c p =
    let (passed, none, wants) = rw c.in-None-3.is at
    (c.in_ok-pass_line-in-Some-checked_sub.ensures.told (c.parts.invariant.1 p)) in
    (c.parts.rest.now, passed, wants)
