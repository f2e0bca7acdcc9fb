use Rattle.std.proofs.Common.{refl}
use Rattle.machines.specs.Grammar.{AreDisjoint, disjoint_below}
use Rattle.machines.proofs.examples.frame_len.Goals as goal

pub advance-requires : goal.advance-requires
unfolding AreDisjoint disjoint_below
advance-requires c = ((tt, refl, refl, λ b. refl), tt, refl)

pub returns : goal.returns
returns c = c.advance.ensures.scanned (c.begin-extent.ensures c.args.bytes.now)
