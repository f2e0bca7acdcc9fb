use Rattle.std.proofs.Common.{◌≡◌, ◌∙◌, ap, arith}
use Rattle.stream_sets.specs.ByteSet.{members_below}
use Rattle.stream_sets.proofs.byte_set.ByteSet.len.Goals as goal

pub returns : goal.returns
returns c =
    let is : c.loop-byte.byte ≡ 256 = omega arith in
    c.loop-byte.invariant.counted ∙ ap (members_below c.args.self.now) is
