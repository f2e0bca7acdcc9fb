use Rattle.std.proofs.Common.{◌≤◌, ◌-◌, length}
use Rattle.stream_searches.proofs.SeveralLemmas.{NoneFirst}
use Rattle.stream_searches.specs.Three.{IsOneOfThree}
use Rattle.stream_searches.proofs.find.several.find_several.Given as goal

abbrev pub invariant-loop-at : goal.invariant-loop-at
invariant-loop-at l =
    (l.start ≤ length l.fn.all)
    × NoneFirst l.fn.all (IsOneOfThree l.fn.first l.fn.second l.fn.third) l.start

abbrev pub decreases-loop-at : goal.decreases-loop-at
decreases-loop-at l = length l.fn.all - l.start
