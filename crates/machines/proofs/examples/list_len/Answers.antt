use Rattle.std.proofs.Common.{arith, refl}
use Rattle.machines.specs.Grammar.{AreDisjoint, disjoint_below}
use Rattle.machines.proofs.examples.list_len.Goals as goal

pub advance-requires : goal.advance-requires
unfolding AreDisjoint disjoint_below
advance-requires c = (
  tt,
  (
    tt,
    (
      (
        tt,
        record {
          filled = refl;
          words = refl;
          first = refl;
          next = refl;
          brackets = refl;
          kinds = refl;
        },
        omega arith,
      ),
      tt,
      refl,
    ),
    refl,
  ),
  refl,
)

pub returns : goal.returns
returns c = c.advance.ensures.scanned (c.begin-extent.ensures c.args.bytes.now)
