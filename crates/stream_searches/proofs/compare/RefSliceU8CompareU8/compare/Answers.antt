use Rattle.std.proofs.Common.{arith, ◌∷◌, []}
use Rattle.stream_searches.proofs.CompareLemmas.{IsShort-none, StartsWithSpelling-length}
use Rattle.stream_searches.proofs.compare.RefSliceU8CompareU8.compare.Goals as goal

pub returns-in-empty : goal.returns-in-empty
returns-in-empty c =
    let all = c.args.self.now.now in
    let b = c.args.literal in (
      IsShort-none b all c.in-empty.len_below,
      λ s. let shorter = StartsWithSpelling-length (b ∷ []) all s
          in absurd (omega (arith, shorter, c.in-empty.len_below)),
    )
