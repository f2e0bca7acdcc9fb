use Rattle.std.proofs.Common.{◌<◌, ℕ, zero, suc, List, [], ◌∷◌, length, take, get_or, Bool, IsTrue}
use Rattle.std.proofs.Common.{add-one, arith}
use Rattle.machines.specs.Languages.{AllOf}
use Rattle.machines.proofs.sets.ByteSet.run.Goals as goal

all_more : (these : ℕ → Bool) (n : ℕ) (bytes : List ℕ) → n < length bytes
    → AllOf these (take n bytes) → IsTrue (these (get_or bytes n 0))
    → AllOf these (take (suc n) bytes)
all_more these zero [] low all is = absurd (omega (arith, low))
all_more these zero (b ∷ bytes) low all is = (is, tt)
all_more these (suc n) [] low all is = absurd (omega (arith, low))
all_more these (suc n) (b ∷ bytes) low (first, all) is =
    (first, all_more these n bytes (omega (arith, low)) all is)

pub bytes-preserved : goal.bytes-preserved
bytes-preserved g c = (
  omega arith,
  rw add-one (all_more (g.Self.ByteSet.within c.args.self.now) c.bytes.n c.args.bytes.now
      c.bytes-test.true c.bytes.invariant.1 (c.has.ensures.0 c.if-not-has.false)),
)
