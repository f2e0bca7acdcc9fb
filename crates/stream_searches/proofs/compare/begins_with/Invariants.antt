use Rattle.std.proofs.Common.{◌≡◌, take}
use Rattle.stream_searches.proofs.compare.begins_with.Given as goal

abbrev pub invariant-loop-at : goal.invariant-loop-at
invariant-loop-at l = take l.at l.fn.all ≡ take l.at l.fn.literal
