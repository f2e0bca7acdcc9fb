use Rattle.std.proofs.Common.{[], refl, rules}
use Rattle.exported.proofs.Replies.{ends_more, feed_first, feed_more}
use Rattle.exported.proofs.resp.places.skip_line.Goals as goal

pub bytes-init : goal.bytes-init
bytes-init c = (record { before = []; splits = refl }, λ line behind none e. (line, none, e))

pub bytes-preserved : goal.bytes-preserved
bytes-preserved c = (
  ends_more c.args.bytes.now c.bytes.rest.now c.in-Some.more.now c.in-Some.first.now
      (search rules) c.bytes.invariant.0,
  λ line behind none e.
      let (left, without, at) = c.bytes.invariant.1 line behind none e in
      feed_more left c.bytes.rest.now behind c.in-Some.more.now c.in-Some.first.now
      c.if-first-eq10.false without (search rules) at,
)

pub returns-then-first-eq10-clause-ends : goal.returns-then-first-eq10-clause-ends
returns-then-first-eq10-clause-ends c =
    ends_more c.args.bytes.now c.bytes.rest.now c.in-Some.more.now c.in-Some.first.now
    (search rules) c.bytes.invariant.0

pub returns-then-first-eq10-clause-behind : goal.returns-then-first-eq10-clause-behind
returns-then-first-eq10-clause-behind c = λ line behind none e.
    let (left, without, at) = c.bytes.invariant.1 line behind none e in
    feed_first left c.bytes.rest.now behind c.in-Some.more.now c.in-Some.first.now
    c.if-first-eq10.true without (search rules) at
