use Rattle.format_resp.proofs.Passing.{kept_more, left_is, passed_within}
use Rattle.format_resp.proofs.extent.Extent.advance.Goals as goal

pub returns-in-None-clause-told : goal.returns-in-None-clause-told
returns-in-None-clause-told c (rest, p) =
    absurd (passed_within c.args.protocol _ _ rest p c.in-None.ensures.lookup.0)

pub returns-in-None-clause-kept : goal.returns-in-None-clause-kept
returns-in-None-clause-kept c (rest, p) =
    absurd (passed_within c.args.protocol _ _ rest p c.in-None.ensures.lookup.0)

pub returns-in-Some-clause-told : goal.returns-in-Some-clause-told
returns-in-Some-clause-told c (rest, p) =
    let (low, high, is, size) = c.in-Some.ensures.lookup.0 in
    c.walk.ensures.told (left_is c.args.protocol _ _ rest p c.in-Some.rest.now is)

pub returns-in-Some-clause-kept : goal.returns-in-Some-clause-kept
returns-in-Some-clause-kept c =
    let (low, high, is, size) = c.in-Some.ensures.lookup.0 in
    kept_more c.args.protocol c.walk.result c.args.self.now c.walk.new.self c.args.bytes.now
    c.in-Some.rest.now is
    c.walk.ensures.kept

pub returns-in-None-clause-wants : goal.returns-in-None-clause-wants
returns-in-None-clause-wants c (rest, p) =
    absurd (passed_within c.args.protocol _ _ rest p c.in-None.ensures.lookup.0)

pub returns-in-Some-clause-wants : goal.returns-in-Some-clause-wants
returns-in-Some-clause-wants c (rest, p) =
    let (low, high, is, size) = c.in-Some.ensures.lookup.0 in
    c.walk.ensures.wants (left_is c.args.protocol _ _ rest p c.in-Some.rest.now is)
